use Rattle.std.proofs.Common.{◌≡◌, ◌≤◌, ◌-◌, take, length-drop, [], ◌∷◌, length, drop, ap, ◌∙◌, subst, arith, length-append}
use Rattle.std.proofs.lemmas.List.{take_all}
use Rattle.std.proofs.Math.Seq.{drop-append_seam}
use Rattle.verdict_stream.specs.Quieting.{HasLearned}
use Rattle.verdict_stream.specs.declared.quiet.Quiet.{Quiet}
use Rattle.verdict_stream.proofs.verdicts.Verdicts.step_alone.Goals as goal

pub slice_bounds-learn-count : goal.slice_bounds-learn-count
slice_bounds-learn-count c =
    let (case, made, r, b) = c.requires in
    let h = c.in_ok-catch_up.ensures case made (r ∷ []) b in
    omega (arith, ap length c.bytes-before.ensures, ap length c.bytes.ensures, ap length h.is, length-append c.args.text.now h.grown)

pub slice_bounds-learn-start : goal.slice_bounds-learn-start
slice_bounds-learn-start c =
    let (case, made, r, b) = c.requires in
    let h = c.in_ok-catch_up.ensures case made (r ∷ []) b in
    let n : length c.bytes-before.result.now ≤ length c.bytes.result.now =
    omega (arith, ap length c.bytes-before.ensures, ap length c.bytes.ensures, ap length h.is, length-append c.args.text.now h.grown) in
    n

pub returns : goal.returns
returns c = λ case made r b.
    let h = c.in_ok-catch_up.ensures case made (r ∷ []) b in
    let bytes = c.bytes.result.now in
    let n = length c.bytes-before.result.now in
    let lines : take (length bytes - n) (drop n bytes) ≡ h.grown =
    take_all (length bytes - n) (drop n bytes) (omega (arith, length-drop n bytes)) ∙
    ap (λ t. drop (length t) c.bytes.result.now) c.bytes-before.ensures ∙ ap (λ t. drop (length c.args.text.now) t) (c.bytes.ensures ∙ h.is)
    ∙ drop-append_seam c.args.text.now h.grown in
    let learned : HasLearned (record c.args.self.now.quiet { rows = 0; bytes = 0 }) c.learn.new.self c.args.even c.args.second h.grown =
    subst (λ t. HasLearned (record c.args.self.now.quiet { rows = 0; bytes = 0 }) c.learn.new.self c.args.even c.args.second t) lines
    (subst (λ (q : Quiet). HasLearned q c.learn.new.self c.args.even c.args.second (take (length bytes - n) (drop n bytes))) h.quiet
    c.learn.ensures) in
    record {
      grown = h.grown;
      is = h.is;
      watched = h.watched;
      last = h.last;
      none = (learned.rows, learned.bytes);
      learned = learned;
    }
