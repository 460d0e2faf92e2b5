use Rattle.std.proofs.Common.{◌≡◌, ℕ, List, [], ◌∷◌, ◌++◌, ◌-◌, ◌+◌, true, length, take, append-nil, append_assoc, length-append}
use Rattle.std.proofs.Common.{sym, refl, ap, subst, ◌∙◌, arith, Result, Ok, Err}
use Rattle.std.proofs.lemmas.List.{take_all}
use Rattle.std.proofs.lemmas.Result.{on_ok_weaker}
use Rattle.std.proofs.Math.Seq.{take-append_seam}
use Rattle.std.specs.Prelude.{MatchResult, OnOk, OnErr, codes}
use Rattle.stl_syntax.specs.Texts.{newline}
use Rattle.trace_reader.specs.Feeds.{HasNoFeed}
use Rattle.trace_reader.specs.TraceText.{lines}
use Rattle.trace_reader.proofs.FeedLemmas.{at-free, at-taken}
use Rattle.trace_reader.proofs.LineLemmas.{done, lines-nil, lines-append, lines-line}
use Rattle.circular_buffer.specs.Buffer.{Buffer, buffer, keep_last}
use Rattle.answer_lines.specs.Appended.{GrewInPart, Is}
use Rattle.answer_lines.proofs.TextsBehind.{add_as, add_then}
use Rattle.session_mux.specs.Near.{IsNextFeed}
use Rattle.session_mux.specs.Sessions.{prefixed}
use Rattle.session_mux.specs.Saying.{said_lines, HasSaid}
use Rattle.session_mux.proofs.LineTexts.{keeping_begins, keeping_on, keeping_all}
use Rattle.session_mux.proofs.NearLemmas.{room_first}
use Rattle.session_mux.proofs.saying.say_few.Goals as goal
use Rattle.session_mux.proofs.saying.say_few.Goals.{After-push}

module _ (tag text line : List ℕ) (is : text ≡ line ++ newline) (free : HasNoFeed line) where
  -- the text is one line
  one_line : lines true text ≡ done line ∷ lines true []
  one_line = ap (λ t. lines true t) is ∙ lines-append true line [] ∙ ap (λ ls. ls ++ lines true []) (lines-line line free)

  -- which is said after the tag
  one_said : said_lines tag text ≡ (tag ++ codes " ") ++ text
  one_said =
      ap (λ ls. prefixed (tag ++ codes " ") ls) (one_line ∙ ap (λ ls. done line ∷ ls) (lines-nil true))
      ∙ append-nil ((tag ++ codes " ") ++ line ++ newline) ∙ append_assoc (tag ++ codes " ") line newline
      ∙ ap (λ t. (tag ++ codes " ") ++ t) (sym is)

  -- without its LF
  cut_line : take (length text - 1) text ≡ line
  cut_line =
      let size : length text - 1 ≡ length line = omega (arith, ap length is, length-append line newline) in
      ap (λ n. take n text) size ∙ ap (λ t. take (length line) t) is ∙ take-append_seam line newline

  said : {T E : Type 0} (r : Result T E) (old new : Buffer (List ℕ)) (before after : List ℕ) → old.capacity ≡ 8
      → new ≡ buffer (keep_last 8 (old.items ++ take (length text - 1) text ∷ [])) 8
      → OnOk r (after ≡ before ++ ((tag ++ codes " ") ++ text)) → OnErr r (after ≡ before)
      → MatchResult r (λ _. HasSaid tag text old new before after) (λ _. GrewInPart (Is (said_lines tag text)) before after)
  said (Ok x) old new before after room kept e k =
      let new_is : new ≡ buffer (keep_last 8 (old.items ++ line ∷ [])) 8 = kept ∙ ap (λ l. buffer (keep_last 8 (old.items ++ l ∷ [])) 8) cut_line in
      let all = keeping_on text old text old (keeping_begins text old room) line [] one_line new new_is in
      record {
        added = e ∙ ap (λ w. before ++ w) (sym one_said);
        kept = keeping_all text old [] new all refl;
        room = ap (λ (b : Buffer (List ℕ)). b.capacity) kept;
      }
  said (Err x) old new before after room kept e k = ([], said_lines tag text, refl, k ∙ sym (append-nil before))

-- the text stands in the room behind the tag and a space
behind : (c : After-push) → take c.add_part-end.result c.add_part-end.new.buf ≡ (c.args.tag.now ++ codes " ") ++ c.args.text.now
behind c =
    let text = c.args.text.now in
    (add_then c.put-begin.ensures.added (add_as (take_all (length text) text (omega arith)) c.add_part-end.ensures)).added

pub returns : goal.returns
returns c =
    let text = c.args.text.now in
    let room = c.add_part-end.new.buf in
    let p = goal.at.returns c in
    let front = c.args.tag.now ++ codes " " in
    let last = length text - 1 in
    let begin : c.put-begin.result ≡ length front = omega (arith, c.put-begin.ensures.added.size) in
    let next : IsNextFeed room (length front) last =
    subst (λ b. IsNextFeed room b last) begin (c.is_next_feed.ensures c.if-not-is_next_feed.false) in
    let size : c.add_part-end.result ≡ length front + length text =
    omega (arith, begin, c.add_part-end.ensures.size, ap length (take_all (length text) text (omega arith))) in
    let some = c.requires.some in
    let found = room_first text room front c.add_part-end.result (behind p.After-push) size last next (omega (arith, some)) in
    let end : last + 1 ≡ length text = omega (arith, some) in
    said c.args.tag.now text (take last text) (sym (take_all (last + 1) text (omega (arith, end))) ∙ at-taken text last found.0 found.1)
    (at-free text last found.0 found.1) c.push.result c.args.recent.now c.keep.new.recent c.args.out.now c.push.new.self
    c.requires.room c.in_ok-keep.ensures (on_ok_weaker c.push.result (λ e. e ∙ ap (λ w. c.args.out.now ++ w) (behind p.After-push)) c.push.ensures.ok)
    c.push.ensures.err
