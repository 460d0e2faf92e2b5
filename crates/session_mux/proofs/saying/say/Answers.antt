use Rattle.std.proofs.Common.{◌≡◌, ℕ, List, [], ◌++◌, true, append-nil, sym, subst, ap, ◌∙◌}
use Rattle.std.specs.Prelude.{codes, map}
use Rattle.rational.proofs.Lists.{empty_of_test}
use Rattle.trace_reader.specs.TraceText.{Line}
use Rattle.trace_reader.proofs.LineLemmas.{lines-nil}
use Rattle.circular_buffer.specs.Buffer.{Buffer, buffer, keep_last}
use Rattle.session_mux.specs.Sessions.{prefixed}
use Rattle.session_mux.specs.Saying.{HasSaid}
use Rattle.session_mux.proofs.saying.say.Goals as goal

-- no lines: nothing is added, and the last ones are those before
said_none : (tag : List ℕ) (recent : Buffer (List ℕ)) (before : List ℕ) → recent.capacity ≡ 8 → HasSaid tag [] recent recent before before
said_none tag recent before room = record {
  added = sym (ap (λ ls. before ++ prefixed (tag ++ codes " ") ls) (lines-nil true) ∙ append-nil before);
  kept = λ said e. e
      ∙ ap (λ ts. buffer (keep_last 8 ts) 8) (sym (ap (λ ls. said ++ map (λ (l : Line). l.bytes) ls) (lines-nil true) ∙ append-nil said));
  room = room;
}

pub returns-then-is_empty : goal.returns-then-is_empty
returns-then-is_empty c =
    let none = empty_of_test c.args.text.now (sym c.is_empty.ensures ∙ c.if-is_empty.true) in
    subst (λ (w : List ℕ). HasSaid c.args.tag.now w c.args.recent.now c.args.recent.now c.args.out.now c.args.out.now) (sym none)
    (said_none c.args.tag.now c.args.recent.now c.args.out.now c.requires)
