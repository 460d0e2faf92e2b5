-- The first bytes of an input of several sessions: their faults stay, and what was owed for them is a front of what is owed for all.
use Rattle.std.proofs.Common.{◌≡◌, inl, inr, ℕ, suc, ◌+◌, ◌<◌, ◌≤◌, Bool, true, false, List, []}
use Rattle.std.proofs.Common.{◌∷◌, ◌++◌, length, refl, sym, ap, ◌∙◌, subst, arith, append-nil, append_assoc}
use Rattle.std.specs.Prelude.{MatchBool}
use Rattle.std.proofs.lemmas.Bool.{false≢true}
use Rattle.stl_syntax.specs.Characters.{is_among}
use Rattle.stl_syntax.specs.Formula.{Formula}
use Rattle.trace_reader.specs.TraceText.{Line, lines, is_blank_line}
use Rattle.trace_reader.specs.Feeds.{HasNoFeed, IsOpenLine}
use Rattle.trace_reader.proofs.LineLemmas.{rest, lines-rest}
use Rattle.trace_reader.proofs.OpenLines.{parts, lines-now, open_line, grows}
use Rattle.trace_stream.proofs.FaultPlaces.{at_true, at_false, to_true, to_false}
use Rattle.session_mux.specs.Sessions.{Tagged, AreTagged, AreAnswers}
use Rattle.session_mux.specs.Inputs.{InputFault, FaultOfInput, sound, OwesLines}
use Rattle.session_mux.specs.Taking.{IsTaking}
use Rattle.session_mux.specs.declared.input.Input.{Input}
use Rattle.session_mux.proofs.LinesPass.{Later, WithTag, InLine, fault_sized, past_fault, tagged_open}

-- ---- faults of first lines

-- a fault after a line, where what follows the line goes on otherwise
module _ (n : ℕ) (known : List (List ℕ)) (line : Line) (more other : List Line) (x : InputFault)
    (on : (tags : List (List ℕ)) → FaultOfInput (suc n) tags more x → FaultOfInput (suc n) tags other x) where
  with_tag : (t : Tagged) → WithTag n known line more t x → WithTag n known line other t x
  with_tag t (inl f) = inl f
  with_tag t (inr (a, f)) = inr (a, on (t.tag ∷ known) f)

  by_among : (t : Tagged) (b : Bool) → is_among t.tag known ≡ b → MatchBool (is_among t.tag known) (Later n known line more x) (WithTag n known line more t x)
      → MatchBool (is_among t.tag known) (Later n known line other x) (WithTag n known line other t x)
  by_among t true e m =
      to_true (Later n known line other x) (WithTag n known line other t x) (is_among t.tag known) e
      (on known (at_true (Later n known line more x) (WithTag n known line more t x) (is_among t.tag known) e m))
  by_among t false e m =
      to_false (Later n known line other x) (WithTag n known line other t x) (is_among t.tag known) e
      (with_tag t (at_false (Later n known line more x) (WithTag n known line more t x) (is_among t.tag known) e m))

  in_line : InLine n known line more x → InLine n known line other x
  in_line (inl f) = inl f
  in_line (inr (a, (t, is, m))) = inr (a, (t, is, by_among t (is_among t.tag known) refl m))

  by_blank : (b : Bool) → is_blank_line line ≡ b → MatchBool (is_blank_line line) (Later n known line more x) (InLine n known line more x)
      → MatchBool (is_blank_line line) (Later n known line other x) (InLine n known line other x)
  by_blank true e m = to_true (Later n known line other x) (InLine n known line other x) (is_blank_line line) e
      (on known (at_true (Later n known line more x) (InLine n known line more x) (is_blank_line line) e m))
  by_blank false e m = to_false (Later n known line other x) (InLine n known line other x) (is_blank_line line) e
      (in_line (at_false (Later n known line more x) (InLine n known line more x) (is_blank_line line) e m))

  -- a fault of a first line that is complete stands whatever lines follow it
  pub later_fault : FaultOfInput n known (line ∷ more) x → FaultOfInput n known (line ∷ other) x
  later_fault (inl f) = inl f
  later_fault (inr (a, inl f)) = inr (a, inl f)
  later_fault (inr (a, inr (b, (w, m)))) = inr (a, inr (b, (w, by_blank (is_blank_line line) refl m)))

-- a fault of some lines and those that follow, where these go on otherwise
pub fault_after : (n : ℕ) (known : List (List ℕ)) (front more other : List Line) (x : InputFault)
    → ((m : ℕ) (tags : List (List ℕ)) → FaultOfInput m tags more x → FaultOfInput m tags other x)
    → FaultOfInput n known (front ++ more) x → FaultOfInput n known (front ++ other) x
fault_after n known [] more other x on f = on n known f
fault_after n known (l ∷ front) more other x on f =
    later_fault n known l (front ++ more) (front ++ other) x (λ tags g. fault_after (suc n) tags front more other x on g) f

-- a line that goes on keeps its fault
open_fault : (ended : Bool) (line more : List ℕ) → HasNoFeed line → (m : ℕ) (tags : List (List ℕ)) (x : InputFault)
    → FaultOfInput m tags (rest false line) x → FaultOfInput m tags (lines ended (line ++ more)) x
open_fault ended [] more free m tags x f = absurd f
open_fault ended (c ∷ cs) more free m tags x f =
    let (l, ls, is, fits) = grows ended (c ∷ cs) more free (omega arith) in
    subst (λ k. FaultOfInput m tags k x) (sym is) (of_line l ls fits f)
  where
    of_line : (l : Line) (ls : List Line) → length (c ∷ cs) ≤ length l.bytes → FaultOfInput m tags (rest false (c ∷ cs)) x → FaultOfInput m tags (l ∷ ls) x
    of_line l ls fits (inl f) = inl f
    of_line l ls fits (inr (a, inl (long, e))) = inr (a, inl (omega (arith, fits, long), e))
    of_line l ls fits (inr (a, inr (b, (w, m)))) = absurd (false≢true w)

-- so a fault of the first bytes is one of all
pub input_fault_stays : (front back : List ℕ) (ended : Bool) (x : InputFault) → FaultOfInput 1 [] (lines false front) x
    → FaultOfInput 1 [] (lines ended (front ++ back)) x
input_fault_stays front back ended x f = by_line (open_line front)
  where
    by_line : ((line : List ℕ) × IsOpenLine front line) → FaultOfInput 1 [] (lines ended (front ++ back)) x
    by_line (line, o) =
        let p = parts o in
        subst (λ ls. FaultOfInput 1 [] ls x) (sym (p.joins ended back))
        (fault_after 1 [] p.front (rest false line) (lines ended (line ++ back)) x (λ m tags g. open_fault ended line back p.free m tags x g)
        (subst (λ ls. FaultOfInput 1 [] ls x) (lines-now front line p false) f))

-- ---- answers to first lines

-- the answers to the first of some lines come first
pub answers_split : (f : Formula) (seen first later : List Tagged) (text : List ℕ) → AreAnswers f seen (first ++ later) text
    → (short more : List ℕ) × AreAnswers f seen first short × (text ≡ short ++ more)
answers_split f seen [] later text a = ([], text, refl, refl)
answers_split f seen (x ∷ first) later text (here, beyond, is, on, e) =
    let (short, more, are, k) = answers_split f (seen ++ x ∷ []) first later beyond on in
    (here ++ short, more, (here, short, is, are, refl), e ∙ ap (λ t. here ++ t) k ∙ sym (append_assoc here short more))

-- ---- what an input took

module _ (f : Formula) (i : Input) (bytes written : List ℕ) (k : IsTaking f i bytes written) where
  lines_so_far : lines false bytes ≡ k.front ++ rest false i.part
  lines_so_far = sym (ap (lines false) (append-nil bytes)) ∙ k.joins false []
      ∙ ap (λ ls. k.front ++ ls) (ap (lines false) (append-nil i.part) ∙ lines-rest false i.part k.free)

  -- a line that goes on has no fault yet
  open_sound : (part : List ℕ) → i.part ≡ part → (x : InputFault) → ¬ FaultOfInput (1 + length k.front) k.taken.after (rest false part) x
  open_sound [] e x g = g
  open_sound (c ∷ cs) e x g =
      let some : 0 < length i.part = subst (λ p. 0 < length p) (sym e) (omega arith) in
      let few = k.part_few some in
      let short : length (c ∷ cs) ≤ 4113 = subst (λ p. length p ≤ 4113) e k.short in
      let count = k.count in
      let number : 1 + length k.front ≤ 8589934592 = omega (arith, few, count) in
      false≢true (fault_sized (1 + length k.front) k.taken.after (record { bytes = c ∷ cs; whole = false }) [] (number, short) x g).0

  -- there is no fault so far
  pub no_fault_so_far : (x : InputFault) → ¬ FaultOfInput 1 [] (lines false bytes) x
  no_fault_so_far x g = open_sound i.part refl x (past_fault k.taken.passed (rest false i.part) x (subst (λ ls. FaultOfInput 1 [] ls x) lines_so_far g))

  -- the text so far is owed
  pub owed_so_far : OwesLines f bytes false (written ++ i.text)
  owed_so_far = record {
    tagged = k.taken.tagged;
    whole = false;
    before = sound no_fault_so_far (subst (λ ls. AreTagged ls k.taken.tagged) (sym lines_so_far) (tagged_open k.front i.part k.taken.tagged k.taken.passed));
    is = k.taken.said;
  }

  -- the bytes are not many
  pub few_bytes : length bytes < 9223372036854775808
  few_bytes =
      let small = k.small in
      let few = k.few in
      let short = k.short in
      omega (arith, small, few, short)
