-- Several sessions in one input, as a stream: what a piece and the end come to.
use Rattle.std.proofs.Common.{◌≡◌, ◌≢◌, inr, ℕ, Bool, true, false, List, [], ◌++◌, refl, sym, ap}
use Rattle.std.proofs.Common.{◌∙◌, subst, append-nil, Option, Result, Ok, Err}
use Rattle.std.specs.Prelude.{MatchResult, IfOk, OnOk}
use Rattle.std.proofs.KnownBytes.{Appends-nil}
use Rattle.stl_syntax.specs.Formula.{Formula}
use Rattle.session_mux.specs.Inputs.{OwesLines}
use Rattle.session_mux.specs.Muxes.{Muxed}
use Rattle.session_mux.specs.Taking.{fault_of, HasLines, IsTaking, IsInputStop, HasAll}
use Rattle.session_mux.specs.declared.input.Input.{Input}
use Rattle.session_mux.specs.declared.stop.InputStop.{InputStop}
use Rattle.session_mux.specs.declared.stop.InputStop.TheVariants.{Fault as InLine, NoMemory as NoRoom}
use Rattle.session_mux.proofs.FrontLines.{no_fault_so_far, owed_so_far, few_bytes}
use Rattle.workbench.specs.Requests.{sessions}
use Rattle.workbench.specs.Running.{IsBegun}
use Rattle.workbench.specs.Many.{stop_of_input, outcome_of_input, IsInputWritten, no_room, made_whole, made_in_part, IsManyAtRest}
use Rattle.workbench.specs.Pushing.{IsPushed, IsPushStop, IsPush, IsFinished}
use Rattle.workbench.specs.declared.many.Many.{Many as Sessions}
use Rattle.workbench.specs.declared.fault.Stop.{Stop}
use Rattle.workbench.specs.declared.fault.Stop.TheVariants.{Unwritten, NoMemory}
use Rattle.workbench.proofs.Beginnings.{begun_before, begun_now}

-- ---- what is written

-- where memory was wanting nothing is written
pub starved_made : (held : Option (List ℕ)) (text : List ℕ) (outcome : Result (Unit {0}) InputStop) → outcome ≡ Err NoRoom
    → IsInputWritten held held text outcome (Err NoMemory)
starved_made held text outcome e =
    subst (λ (r : Result (Unit {0}) InputStop). IsInputWritten held held text r (Err NoMemory)) (sym e) (no_room (Appends-nil held))

-- the reason of an input is no fault of a sink
pub not_unwritten : (outcome : Result (Unit {0}) InputStop) → outcome_of_input outcome ≢ Err Unwritten
not_unwritten (Ok x) e = let k = e in cc
not_unwritten (Err (InLine fault)) e = let k = e in cc
not_unwritten (Err NoRoom) e = let k = e in cc

-- ---- pieces

module _ (f : Formula) where
  -- a fault of a line was met
  line_fault : (bytes text : List ℕ) (ended : Bool) (stop : InputStop) → stop ≢ NoRoom → IsInputStop f bytes ended text stop
      → IsPushStop (sessions f) bytes ended text (stop_of_input stop)
  line_fault bytes text ended (InLine fault) ne (first, owed) = ((fault_of fault, first, refl), owed)
  line_fault bytes text ended NoRoom ne h = absurd (ne refl)

  -- and what was owed before it
  line_owed : (bytes text : List ℕ) (ended : Bool) (stop : InputStop) → stop ≢ NoRoom → IsInputStop f bytes ended text stop → OwesLines f bytes ended text
  line_owed bytes text ended (InLine fault) ne (first, owed) = owed
  line_owed bytes text ended NoRoom ne h = absurd (ne refl)

-- what stands between pieces
pub many_at_rest : (m : Sessions) (bytes text : List ℕ) → IsManyAtRest m bytes text → IsPushed (IsManyAtRest m) (sessions m.formula) bytes text
many_at_rest m bytes text k = record {
  input = refl;
  stands = k;
  owed = subst (λ t. OwesLines m.formula bytes false t) all_written (owed_so_far m.formula m.input bytes text k.taking);
  sound = λ line h. no_fault_so_far m.formula m.input bytes text k.taking h.0 h.1;
  few = few_bytes m.formula m.input bytes text k.taking;
}
  where
    all_written : text ++ m.input.text ≡ text
    all_written = ap (λ t. text ++ t) k.empty ∙ append-nil text

-- the text was written
taking_cleared : (f : Formula) (mid : Input) (bytes text : List ℕ) → IsTaking f mid bytes text → IsTaking f (record mid { text = [] }) bytes (text ++ mid.text)
taking_cleared f mid bytes text k = record {
  front = k.front;
  free = k.free;
  joins = k.joins;
  count = k.count;
  few = k.few;
  part_few = k.part_few;
  short = k.short;
  small = k.small;
  taken = subst (λ t. HasLines f mid.mux k.front t) (sym (append-nil (text ++ mid.text))) k.taken;
}

rest_after : (f : Formula) (mid new : Input) (bytes text : List ℕ) → new ≡ record mid { text = [] } → IsTaking f mid bytes text
    → IsManyAtRest (record { formula = f; input = new }) bytes (text ++ mid.text)
rest_after f mid new bytes text e k =
    subst (λ (i : Input). IsManyAtRest (record { formula = f; input = i }) bytes (text ++ mid.text)) (sym e)
    (record { taking = taking_cleared f mid bytes text k; empty = refl })

module _ (f : Formula) (mid new : Input) (held held_after : Option (List ℕ)) where
  -- a piece
  pub many_pushed : (bytes piece text : List ℕ) → OwesLines f bytes false text
      → (fed : Result (Unit {0}) InputStop) (result : Result (Unit {0}) Stop) → IsInputWritten held held_after mid.text fed result
      → MatchResult fed (λ _. IsTaking f mid (bytes ++ piece) text) (λ e. IsInputStop f (bytes ++ piece) false (text ++ mid.text) e)
      → OnOk result (new ≡ record mid { text = [] })
      → IsPush (sessions f) held held_after (bytes ++ piece) false text
      (λ _. IsPushed (IsManyAtRest (record { formula = f; input = new })) (sessions f) (bytes ++ piece)) result
  many_pushed bytes piece text before fed result (no_room kept) h done = ([], kept, inr ([], begun_before (sessions f) bytes piece text false before))
  many_pushed bytes piece text before (Ok x) result (made_whole ne wrote) h done = (
    mid.text,
    wrote,
    many_at_rest (record { formula = f; input = new }) (bytes ++ piece) (text ++ mid.text) (rest_after f mid new (bytes ++ piece) text done h),
  )
  many_pushed bytes piece text before (Err stop) result (made_whole ne wrote) h done =
      (mid.text, wrote, line_fault f (bytes ++ piece) (text ++ mid.text) false stop (λ e. ne (ap Err e)) h)
  many_pushed bytes piece text before (Ok x) result (made_in_part ne part) h done = (
    part.front,
    part.wrote,
    (
      part.back,
      part.missing,
      begun_now (sessions f) (bytes ++ piece) text part.front part.back mid.text false part.parts (owed_so_far f mid (bytes ++ piece) text h),
    ),
  )
  many_pushed bytes piece text before (Err stop) result (made_in_part ne part) h done = (
    part.front,
    part.wrote,
    (
      part.back,
      part.missing,
      begun_now (sessions f) (bytes ++ piece) text part.front part.back mid.text false
          part.parts (line_owed f (bytes ++ piece) (text ++ mid.text) false stop (λ e. ne (ap Err e)) h),
    ),
  )

  -- the end
  all_answered : (bytes text : List ℕ) → HasAll f mid.mux bytes (text ++ mid.text) → new ≡ record mid { text = [] }
      → IsFinished (HasAll f new.mux) (sessions f) bytes true (text ++ mid.text)
  all_answered bytes text h done =
      let same : new.mux ≡ mid.mux = ap (λ (i : Input). i.mux) done in
      ((refl, refl, h.owed, h.sound), subst (λ (m : Muxed). HasAll f m bytes (text ++ mid.text)) (sym same) h)

  -- what the end told the sessions is all of their text, or an end of the input for a reason
  pub many_ended : (bytes text : List ℕ) → OwesLines f bytes false text → (finished : Result (Unit {0}) InputStop)
      (result : Result (Unit {0}) Stop) → IsInputWritten held held_after mid.text finished result
      → MatchResult finished (λ _. HasAll f mid.mux bytes (text ++ mid.text)) (λ e. IsInputStop f bytes true (text ++ mid.text) e)
      → OnOk result (new ≡ record mid { text = [] })
      → MatchResult result (λ _. IsPush (sessions f) held held_after bytes true text (IsFinished (HasAll f new.mux) (sessions f) bytes) (Ok true))
      (λ e. IsPush (sessions f) held held_after bytes true text (IsFinished (HasAll f new.mux) (sessions f) bytes) (Err e))
  many_ended bytes text before finished result (no_room kept) h done =
      ([], kept, inr ([], subst (λ b. IsBegun (sessions f) b true (text ++ []) []) (append-nil bytes) (begun_before (sessions f) bytes [] text true before)))
  many_ended bytes text before (Ok x) result (made_whole ne wrote) h done = (mid.text, wrote, all_answered bytes text h done)
  many_ended bytes text before (Err stop) result (made_whole ne wrote) h done =
      (mid.text, wrote, line_fault f bytes (text ++ mid.text) true stop (λ e. ne (ap Err e)) h)
  many_ended bytes text before (Ok x) result (made_in_part ne part) h done =
      (part.front, part.wrote, (part.back, part.missing, begun_now (sessions f) bytes text part.front part.back mid.text true part.parts h.owed))
  many_ended bytes text before (Err stop) result (made_in_part ne part) h done = (
    part.front,
    part.wrote,
    (
      part.back,
      part.missing,
      begun_now (sessions f) bytes text part.front part.back mid.text true part.parts (line_owed f bytes (text ++ mid.text) true stop (λ e. ne (ap Err e)) h),
    ),
  )

-- ---- the beginning and the end

-- without bytes it may be pushed
pub many_begun : {E : Type 0} (r : Result Sessions E) → IfOk r (λ m. IsManyAtRest m [] []) → IfOk r (λ m. IsPushed (IsManyAtRest m) (sessions m.formula) [] [])
many_begun (Ok m) k = many_at_rest m [] [] k
many_begun (Err e) k = tt

-- which is a request of its formula
pub many_asked : {E : Type 0} (f : Formula) (r : Result Sessions E) → IfOk r (λ m. m.formula ≡ f) → IfOk r (λ m. sessions m.formula ≡ sessions f)
many_asked f (Ok m) e = ap sessions e
many_asked f (Err e) k = tt
