-- The lines of stretches that follow one another.
use Rattle.std.proofs.Common.{◌≡◌, ℕ, zero, suc, ◌+◌, ◌≤◌, Bool, List, [], ◌∷◌, ◌++◌, length, Some}
use Rattle.std.proofs.Common.{refl, sym, ap, ◌∙◌, subst, arith, append_assoc, length-append}
use Rattle.std.specs.Prelude.{slice_get}
use Rattle.rational.specs.Time.{◌≈◌}
use Rattle.frac128.specs.Value.{value}
use Rattle.time_sets.specs.Turns.{place}
use Rattle.time_sets.specs.Spans.{border}
use Rattle.time_sets.specs.Windows.{IsDomain, IsOf}
use Rattle.stl_syntax.specs.Texts.{AreVerdictLines, start_line}
use Rattle.stl_syntax.specs.declared.items.Verdict.{Verdict}
use Rattle.stl_syntax.specs.declared.scale.Scale.{Scale}
use Rattle.answer_lines.proofs.Lines.{lines_join}
use Rattle.truth_sets.specs.declared.growing.Judged.{Judged}
use Rattle.verdict_sets.specs.Telling.{IsVerdictAt, AreVerdictsFrom, AreLinesFrom, AreLeft, IsToldTo}
use Rattle.verdict_sets.specs.declared.lines.Told.{Told}

-- the verdicts of stretches, and of those after them
pub verdicts_join : (j : Judged) (n m : ℕ) (vs ws : List Verdict) → n + length vs ≡ m → AreVerdictsFrom j n vs → AreVerdictsFrom j m ws
    → AreVerdictsFrom j n (vs ++ ws)
verdicts_join j n m [] ws e a b = λ k v is. subst (λ x. IsVerdictAt j (x + k) v) here (b k v is)
  where
    here : m ≡ n
    here = omega (arith, e)
verdicts_join j n m (w ∷ vs) ws e a b =
    at (verdicts_join j (n + 1) m vs ws (omega (arith, e)) (λ k v is. subst (λ x. IsVerdictAt j x v) (sym (behind k)) (a (suc k) v is)) b)
  where
    behind : (k : ℕ) → n + 1 + k ≡ n + suc k
    behind k = omega arith

    at : AreVerdictsFrom j (n + 1) (vs ++ ws) → (k : ℕ) (v : Verdict) → slice_get (w ∷ (vs ++ ws)) k ≡ Some v → IsVerdictAt j (n + k) v
    at others zero v is = a zero v is
    at others (suc k) v is = subst (λ x. IsVerdictAt j x v) (behind k) (others k v is)

module _ (j : Judged) (scale : Scale) (holds : Bool) (n : ℕ) (verdicts : List Verdict) (text : List ℕ) (are : AreVerdictsFrom j n verdicts)
    (lines : AreVerdictLines scale verdicts text) where
  -- lines, and all that are left after them
  pub lines_on : (m : ℕ) (later : List ℕ) → n + length verdicts ≡ m → AreLinesFrom j scale holds m later → AreLinesFrom j scale holds n (text ++ later)
  lines_on m later e r = record {
    verdicts = verdicts ++ r.verdicts;
    count = omega (arith, e, r.count, length-append verdicts r.verdicts);
    are = verdicts_join j n m verdicts r.verdicts e are r.are;
    body = text ++ r.body;
    lines = lines_join scale verdicts r.verdicts text r.body lines r.lines;
    parts = ap (λ t. text ++ t) r.parts ∙ sym (append_assoc text r.body (start_line holds));
  }

  -- the last lines
  pub lines_end : n + length verdicts ≡ length j.times.turns.items + 1 → AreLinesFrom j scale holds n (text ++ start_line holds)
  lines_end e = record { verdicts = verdicts; count = e; are = are; body = text; lines = lines; parts = refl }

module _ (j : Judged) (a : Told) (judged : a.judged ≡ j) (none : a.next ≡ 0) where
  -- where no line is made yet, all are left
  pub all_left : (text : List ℕ) → AreLeft a text → AreLinesFrom j a.scale a.holds 0 text
  all_left text left =
      subst (λ n. AreLinesFrom j a.scale a.holds n text) none (subst (λ (x : Judged). AreLinesFrom x a.scale a.holds a.next text) judged left)

  -- and the first stretch is the next
  pub begun_with : (scale : Scale) → scale.time ≤ 6 → IsDomain j.on → IsOf j.on j.times → a.scale ≡ scale → value a.from ≈ (place j.on.from).at → IsToldTo a
  begun_with scale digits domain own same from = record {
    digits = subst (λ (s : Scale). s.time ≤ 6) (sym same) digits;
    domain = subst (λ (x : Judged). IsDomain x.on) (sym judged) domain;
    own = subst (λ (x : Judged). IsOf x.on x.times) (sym judged) own;
    from = subst (λ (x : Judged). value a.from ≈ (place (border x.on x.times a.next)).at) (sym judged)
        (subst (λ n. value a.from ≈ (place (border j.on j.times n)).at) (sym none) from);
    within = omega (arith, none);
  }
