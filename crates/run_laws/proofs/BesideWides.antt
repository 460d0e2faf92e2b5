-- What a run may come to beside one over the same input that was refused for a denominator.
use Rattle.std.proofs.Common.{◌≡◌, ◌≢◌, inl, ℕ, Bool, true, false, List, [], ◌++◌, refl, sym, ap, ◌∙◌, subst, arith}
use Rattle.std.proofs.lemmas.Bool.{false≢true}
use Rattle.stl_syntax.specs.Formula.{Formula}
use Rattle.stl_syntax.specs.Trace.{Trace}
use Rattle.report.specs.Report.{Command}
use Rattle.trace_reader.proofs.TraceRefusalLaw.{Trace-unique}
use Rattle.workbench.specs.Requests.{Request, no_form, refused, whole, stream, sessions, generated, has_input}
use Rattle.workbench.specs.Requests.{verdicts, early, margins}
use Rattle.workbench.specs.Owed.{Owes, HasTooMany}
use Rattle.workbench.specs.Ended.{IsWide, IsWideWhole, HasFault, IsOverfull, EndsWith}
use Rattle.promises.proofs.Due.{small_answer}
use Rattle.promises.proofs.OneRequest.{one_request}
use Rattle.run_laws.specs.OneAnswer.{IsFront, AreOnOneLine, IsBesideWide, wide_too, answered, faulty, BesideAWide}
use Rattle.run_laws.proofs.FaultsOfAll.{all_read}
use Rattle.run_laws.proofs.Endings.{IsEnding, at_fault, answer, too_wide, too_full}
use Rattle.run_laws.proofs.Fronts.{nil_front, before_wide}
use Rattle.run_laws.proofs.OneEnding.{answer_is_owed}
use Rattle.run_laws.proofs.OwnEnds.{HasOwnEnd, has_own_end, own_ending}
use Rattle.run_laws.proofs.NoInput.{none_end, bad_end, made_end}
use Rattle.run_laws.proofs.Wides.{wides_on_one_line}

-- ---- statuses

-- a request without input is not refused for a denominator
unread_not_wide : (request : Request) {read line text : List ℕ} {ended : Bool} {n : ℕ} → has_input request ≡ false → EndsWith read ended request n line text
    → n ≢ 8
unread_not_wide no_form has end e = let k = (none_end end).0 in omega (arith, k, e)
unread_not_wide (refused l) has end e = let k = (bad_end l end).0 in omega (arith, k, e)
unread_not_wide (whole c f) has end e = absurd (false≢true (sym has))
unread_not_wide (stream s f) has end e = absurd (false≢true (sym has))
unread_not_wide (sessions f) has end e = absurd (false≢true (sym has))
unread_not_wide (generated k rows) has end e = let h = (made_end k rows end).0 in omega (arith, h, e)

-- ---- the refusal, by all bytes

-- bytes of which some were read before a refusal for a denominator, with the text before it
record IsWideAt (request : Request) (bytes text : List ℕ) : Type 0 where
  read : List ℕ
  left : List ℕ
  ended : Bool
  node : ℕ
  den : ℕ
  parts : bytes ≡ read ++ left
  at : ended ≡ true → left ≡ []
  is : IsWide request read ended node den text

wide_at : {request : Request} {bytes line text : List ℕ} {n : ℕ} → n ≡ 8 → IsEnding request bytes n line text → IsWideAt request bytes text
wide_at e (at_fault h owed) = absurd (omega (arith, e))
wide_at {request} {bytes} {text = text} {n = n} e (answer h) = let small = small_answer request bytes text true n h in absurd (omega (arith, e, small))
wide_at e (too_wide read left ended i den parts at h) =
    record { read = read; left = left; ended = ended; node = i; den = den; parts = parts; at = at; is = h }
wide_at e (too_full count h) = absurd (omega (arith, e))

-- a whole trace that was refused
record IsWideOfAll (c : Command) (f : Formula) (bytes text : List ℕ) : Type 0 where
  node : ℕ
  den : ℕ
  none : text ≡ []
  is : IsWideWhole c f bytes node den

wide_of_all : {c : Command} {f : Formula} {bytes text : List ℕ} → IsWideAt (whole c f) bytes text → IsWideOfAll c f bytes text
wide_of_all {c} {f} w =
    let (e, none, is) = w.is in
    let same = sym (w.parts ∙ all_read w.read w.left (w.at e)) in
    record { node = w.node; den = w.den; none = none; is = subst (λ b. IsWideWhole c f b w.node w.den) same is }

-- what was written before the refusal is the front of what is owed
wide_front : (request : Request) (bytes text all : List ℕ) → IsWideAt request bytes text → Owes request bytes true all → IsFront text all
wide_front request bytes text all w owed =
    before_wide w.read w.left w.ended w.at all request w.node w.den text w.is (subst (λ b. Owes request b true all) w.parts owed)

-- ---- the other run

module _ (bytes text : List ℕ) where
  beside_fault : (request : Request) (line said : List ℕ) → IsWideAt request bytes text → HasFault request bytes true line
      → Owes request bytes true said → IsBesideWide request text 4 said
  beside_fault no_form line said w h owed = absurd h
  beside_fault (refused l) line said w h owed = absurd h
  beside_fault (whole c f) line said w (x, fault, e) owed = absurd ((wide_of_all w).is.trace.sound x fault)
  beside_fault (stream verdicts f) line said w h owed = absurd w.is
  beside_fault (stream early f) line said w h owed = absurd w.is
  beside_fault (stream margins f) line said w h owed = faulty f refl refl (wide_front (stream margins f) bytes text said w owed)
  beside_fault (sessions f) line said w h owed = absurd w.is
  beside_fault (generated n rows) line said w h owed = absurd h

  not_full : (request : Request) (count : ℕ) → IsWideAt request bytes text → ¬ IsOverfull request bytes true count
  not_full no_form count w h = h
  not_full (refused l) count w h = h
  not_full (whole c f) count w (e, (tr, is, many)) =
      let v = (wide_of_all w).is in
      v.few count (subst (λ (t : Trace). HasTooMany c f t count) (Trace-unique bytes f.scale tr v.tr is.trace.text v.trace.trace.text) many)
  not_full (stream s f) count w h = h
  not_full (sessions f) count w h = h
  not_full (generated n rows) count w h = h

  both_wide : (request : Request) (said : List ℕ) → IsWideAt request bytes text → IsWideAt request bytes said → AreOnOneLine text said
  both_wide no_form said w v = absurd w.is
  both_wide (refused l) said w v = absurd w.is
  both_wide (whole c f) said w v = inl (nil_front text said (wide_of_all w).none)
  both_wide (stream verdicts f) said w v = absurd w.is
  both_wide (stream early f) said w v = absurd w.is
  both_wide (stream margins f) said w v = wides_on_one_line w.left v.left w.at v.at w.parts v.parts w.is v.is
  both_wide (sessions f) said w v = absurd w.is
  both_wide (generated n rows) said w v = absurd w.is

  beside : (request : Request) {line said : List ℕ} {n : ℕ} → has_input request ≡ true → IsWideAt request bytes text
      → IsEnding request bytes n line said → IsBesideWide request text n said
  beside request has w (at_fault {line = line} {text = said} h owed) = beside_fault request line said w h owed
  beside request has w (answer {status = n} {text = said} h) =
      answered (small_answer request bytes said true n h) (wide_front request bytes text said w (answer_is_owed request bytes said n has h))
  beside request has w (too_wide read left ended i den {text = said} parts at h) =
      wide_too refl (both_wide request said w (record { read = read; left = left; ended = ended; node = i; den = den; parts = parts; at = at; is = h }))
  beside request has w (too_full count h) = absurd (not_full request count w h)

-- beside a refusal for a denominator
pub beside_a_wide : BesideAWide
beside_a_wide request words asked i j o e p g other ask also held a b own = by_input (has_input request) refl
  where
    x : HasOwnEnd words i a.bytes a.text 8 a.line
    x = has_own_end ((λ k. omega (arith, k)), (λ k. omega (arith, k)), (λ k. omega (arith, k))) a.ended

    y : HasOwnEnd asked j b.bytes b.text other b.line
    y = has_own_end own b.ended

    here : x.request ≡ request
    here = one_request words x.request request x.asks ask

    there : y.request ≡ request
    there = one_request asked y.request request y.asks also

    by_input : (k : Bool) → has_input request ≡ k → IsBesideWide request a.text other b.text
    by_input true has =
        beside held.bytes a.text request has
        (wide_at refl (subst (λ (q : Request). IsEnding q held.bytes 8 a.line a.text) here
        (own_ending held.bytes x (ap has_input here ∙ has) held.first a.moved)))
        (subst (λ (q : Request). IsEnding q held.bytes other b.line b.text) there (own_ending held.bytes y (ap has_input there ∙ has) held.second b.moved))
    by_input false has = absurd (unread_not_wide x.request (ap has_input here ∙ has) x.is refl)
