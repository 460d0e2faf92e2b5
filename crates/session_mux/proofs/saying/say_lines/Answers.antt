use Rattle.std.proofs.Common.{◌≡◌, ℕ, List, [], ◌++◌, append-nil, sym, refl, ap, ◌∙◌, Result, Ok, Err}
use Rattle.std.proofs.lemmas.Result.{err_from_is_err_and}
use Rattle.std.specs.Prelude.{MatchResult, OnOk, OnErr}
use Rattle.circular_buffer.specs.Buffer.{Buffer, buffer, keep_last}
use Rattle.answer_lines.specs.Appended.{GrewInPart, Is}
use Rattle.session_mux.specs.Saying.{texts, said_lines, HasSaid, HasLastLines}
use Rattle.session_mux.proofs.saying.say_lines.Goals as goal

-- the lines were added or a part of them, and the last ones kept
said_if : {T E : Type 0} (r : Result T E) (tag text last : List ℕ) (old new : Buffer (List ℕ)) (before after : List ℕ)
    → OnOk r (after ≡ before ++ said_lines tag text) → OnErr r (GrewInPart (Is (said_lines tag text)) before after) → HasLastLines text last
    → ((said : List (List ℕ)) → old ≡ buffer (keep_last 8 said) 8 → new ≡ buffer (keep_last 8 (said ++ texts last)) 8) → new.capacity ≡ 8
    → MatchResult r (λ _. HasSaid tag text old new before after) (λ _. GrewInPart (Is (said_lines tag text)) before after)
said_if (Ok x) tag text last old new before after e k h kept room =
    record { added = e; kept = λ said f. kept said f ∙ ap (λ ts. buffer ts 8) (sym (h said)); room = room }
said_if (Err x) tag text last old new before after e k h kept room = k

pub returns-in_err-keep_lines : goal.returns-in_err-keep_lines
returns-in_err-keep_lines c =
    let p = err_from_is_err_and c.from_residual.result c.from_residual.ensures.1 in
    rw p.1 ([], said_lines c.args.tag.now c.args.text.now, refl, sym (append-nil c.args.out.now))

pub returns : goal.returns
returns c =
    said_if c.put_lines.result c.args.tag.now c.args.text.now c.last_lines.result.now c.args.recent.now c.keep_lines.new.recent c.args.out.now
    c.put_lines.new.out c.put_lines.ensures.ok c.put_lines.ensures.err c.last_lines.ensures c.in_ok-keep_lines.ensures.kept c.in_ok-keep_lines.ensures.room
