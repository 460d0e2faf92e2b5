use Rattle.std.proofs.Common.{◌≡◌, ℕ, List, [], ◌++◌, codes, append_assoc, append-nil, sym, ap, ◌∙◌, Result, Ok, Err}
use Rattle.std.specs.Prelude.{OnOk, OnErr}
use Rattle.std.proofs.lemmas.Result.{on_ok_weaker, on_err_weaker}
use Rattle.rational.proofs.Lists.{on_err_anyway}
use Rattle.answer_lines.specs.Appended.{GrewInPart, Is}
use Rattle.stl_syntax.specs.Texts.{newline}
use Rattle.session_mux.proofs.saying.put_long.Goals as goal

-- a line that was added, or a part of it, goes on from what there was
goes_on : {T E : Type 0} (r : Result T E) (line old new : List ℕ) → OnOk r (new ≡ old ++ line) → OnErr r (GrewInPart (Is line) old new)
    → (front : List ℕ) × (new ≡ old ++ front)
goes_on (Ok x) line old new e k = (line, e)
goes_on (Err x) line old new e (a, b, whole, k) = (a, k)

pub returns-in_err-hand_over-clause-begins : goal.returns-in_err-hand_over-clause-begins
returns-in_err-hand_over-clause-begins c = ([], c.in_err-hand_over.ensures.err.0 ∙ sym (append-nil c.args.out.now))

pub returns-in_err-hand_over-clause-err : goal.returns-in_err-hand_over-clause-err
returns-in_err-hand_over-clause-err c =
    let out = c.args.out.now in
    let line = (c.args.tag.now ++ codes " ") ++ c.args.line.now ++ newline in
    let all : (rest : List ℕ) × (c.hand_over.new.out ++ rest ≡ (out ++ c.args.waiting.now) ++ line) = (
      c.args.waiting.now ++ line,
      ap (λ w. w ++ (c.args.waiting.now ++ line)) c.in_err-hand_over.ensures.err.0 ∙ sym (append_assoc out c.args.waiting.now line),
    ) in
    on_err_anyway _ all

-- a line was added behind those that wait
module _ {T E : Type 0} (r : Result T E) (out waiting mid new tag bytes line : List ℕ) (handed : mid ≡ out ++ waiting) (same : bytes ≡ tag) where
  abbrev line_of : List ℕ → List ℕ
  line_of t = (t ++ codes " ") ++ line ++ newline

  added : (left : List ℕ) → left ≡ [] → OnOk r (new ≡ mid ++ line_of bytes) → OnOk r (new ++ left ≡ (out ++ waiting) ++ line_of tag)
  added left none ok =
      on_ok_weaker r (λ e. ap (λ w. new ++ w) none ∙ append-nil new ∙ e ∙ ap (λ w. w ++ line_of bytes) handed
      ∙ ap (λ t. (out ++ waiting) ++ line_of t) same) ok

  begun : OnOk r (new ≡ mid ++ line_of bytes) → OnErr r (GrewInPart (Is (line_of bytes)) mid new) → (front : List ℕ) × (new ≡ out ++ front)
  begun ok err =
      let (front, e) = goes_on r (line_of bytes) mid new ok err in
      (waiting ++ front, e ∙ ap (λ w. w ++ front) handed ∙ append_assoc out waiting front)

  cut : OnErr r (GrewInPart (Is (line_of bytes)) mid new) → OnErr r ((rest : List ℕ) × (new ++ rest ≡ (out ++ waiting) ++ line_of tag))
  cut err =
      on_err_weaker r (λ (a, b, whole, k). (
        b,
        ap (λ w. w ++ b) k ∙ append_assoc mid a b ∙ ap (λ w. mid ++ w) whole ∙ ap (λ w. w ++ line_of bytes) handed
            ∙ ap (λ t. (out ++ waiting) ++ line_of t) same,
      )) err

pub returns-clause-ok : goal.returns-clause-ok
returns-clause-ok c =
    added c.put_line.result c.args.out.now c.args.waiting.now c.hand_over.new.out c.put_line.new.out c.args.tag.now c.bytes.result.now c.args.line.now
    c.in_ok-hand_over.ensures.text c.bytes.ensures _ c.in_ok-hand_over.ensures.none c.put_line.ensures.ok

pub returns-clause-begins : goal.returns-clause-begins
returns-clause-begins c =
    begun c.put_line.result c.args.out.now c.args.waiting.now c.hand_over.new.out c.put_line.new.out c.args.tag.now c.bytes.result.now c.args.line.now
    c.in_ok-hand_over.ensures.text c.bytes.ensures c.put_line.ensures.ok c.put_line.ensures.err

pub returns-clause-err : goal.returns-clause-err
returns-clause-err c =
    cut c.put_line.result c.args.out.now c.args.waiting.now c.hand_over.new.out c.put_line.new.out c.args.tag.now c.bytes.result.now c.args.line.now
    c.in_ok-hand_over.ensures.text c.bytes.ensures c.put_line.ensures.err
