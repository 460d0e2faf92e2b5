-- Events over which a node's front moves once at most: what it gives out then is in as few spans as may be.
use Rattle.std.proofs.Common.{◌≡◌, ◌⊎◌, inl, inr, refl, sym, ap, subst, ◌∙◌, ℕ, zero, suc, ◌<◌, ◌≤◌, Bool, true, false, cond, Some, None, List, [], ◌∷◌}
use Rattle.std.proofs.Common.{◌++◌, length, arith, append-nil, pos}
use Rattle.std.specs.Prelude.{◌≢◌, ◌==◌, MatchBool}
use Rattle.stl_syntax.specs.Trace.{Header, Row, Trace, first_time}
use Rattle.stl_syntax.specs.Formula.{subformula}
use Rattle.stl_syntax.specs.PostOrder.{IsPostOrder}
use Rattle.stl_syntax.specs.Verdicts.{Describes}
use Rattle.stl_syntax.specs.declared.items.Verdict.{Verdict}
use Rattle.stl_syntax.specs.declared.node.Node.{Node}
use Rattle.online_nodes.specs.Network.{Event, row, step, Front, State, shown, same_front, answered, is_atom, node_is_atom, allowed_at}
use Rattle.online_nodes.specs.Network.{after_event, EmittedFrom, IsRunFrom}
use Rattle.online_nodes.specs.Driven.{rows_of, steps_of, takes}
use Rattle.online_nodes.proofs.RisingLaw.{IsSound, sound_after}
use Rattle.online_nodes.proofs.StayLaw.{first_same}
use Rattle.verdict_stream.proofs.Passes.{Gives, given_by, AreQuiet, quiet_gives}
use Rattle.verdict_stream.proofs.WatchedRoot.{shown_by}
use Rattle.agreeing.proofs.JoinLaw.{Alternate, alternate}

module _ (nodes : List Node) (header : Header) (i : ℕ) where
  -- the front that the node shows stays at each of the events but one at most
  abbrev pub MovesOnce : State → List Event → Type 0
  MovesOnce s [] = Unit {0}
  MovesOnce s (e ∷ events) =
      ((shown s i ≡ shown (after_event nodes s e) i) × MovesOnce (after_event nodes s e) events)
      ⊎ AreQuiet nodes header i (after_event nodes s e) events

  none_alternates : (vs : List Verdict) → vs ≡ [] → Alternate vs
  none_alternates vs e = subst Alternate (sym e) tt

  given_alternates : (tr : Trace) (old new : Front) (vs : List Verdict) → Gives nodes header i tr old new vs → Alternate vs
  given_alternates tr old None vs g = none_alternates vs g
  given_alternates tr old (Some f) vs g = by_test (same_front old (Some f)) g
    where
      by_test : (t : Bool) → MatchBool t (vs ≡ []) (Describes vs (subformula nodes i) tr (answered (first_time tr.rows) old f)) → Alternate vs
      by_test true e = none_alternates vs e
      by_test false d = alternate (subformula nodes i) tr (answered (first_time tr.rows) old f) vs d

  -- so what it gives out at them alternates
  pub once_alternates : (s : State) (events : List Event) (vs : List Verdict) → MovesOnce s events → EmittedFrom nodes header i s events vs → Alternate vs
  once_alternates s [] vs once em = none_alternates vs em
  once_alternates s (e ∷ events) vs (inl (same, once)) (here, later, at, more, eq) =
      let none = quiet_gives nodes header i s (e ∷ []) here (same, tt) (here, [], at, refl, sym (append-nil here)) in
      subst Alternate (sym (eq ∙ ap (λ l. l ++ later) none)) (once_alternates (after_event nodes s e) events later once more)
  once_alternates s (e ∷ events) vs (inr quiet) (here, later, at, more, eq) =
      let none = quiet_gives nodes header i (after_event nodes s e) events later quiet more in
      subst Alternate (sym (eq ∙ ap (λ l. here ++ l) none ∙ append-nil here))
      (given_alternates (record { header = header; rows = (after_event nodes s e).rows }) (shown s i) (shown (after_event nodes s e) i) here
      (given_by nodes header i s (after_event nodes s e) here at))

  -- a step of another node leaves it
  other_step : (s : State) (k : ℕ) → i ≢ k → shown s i ≡ shown (after_event nodes s (step k)) i
  other_step s k d = by_test (i == k) refl
    where
      by_test : (t : Bool) → (i == k) ≡ t → shown s i ≡ shown (after_event nodes s (step k)) i
      by_test true e = absurd (d (grind (arith, e)))
      by_test false e =
          shown_by s i (first_time s.rows) (s.fronts i) refl refl
          ∙ sym (shown_by (after_event nodes s (step k)) i (first_time s.rows) (s.fronts i) refl (ap (λ t. cond t (allowed_at nodes s k) (s.fronts i)) e))

  quiet_takes : (s : State) (n : ℕ) → AreQuiet nodes header i s (takes n)
  quiet_takes s zero = tt
  quiet_takes s (suc n) = (refl, quiet_takes s n)

  once_takes : (s : State) (n : ℕ) → MovesOnce s (takes n)
  once_takes s zero = tt
  once_takes s (suc n) = inl (refl, once_takes s n)

  -- steps of others, and takes, leave it
  pub quiet_steps : (k : ℕ) (rest : List Node) (n : ℕ) (s : State) → IsRunFrom nodes header s (steps_of k rest ++ takes n)
      → ((j : ℕ) → k ≤ j → node_is_atom nodes j ≡ false → i ≢ j) → AreQuiet nodes header i s (steps_of k rest ++ takes n)
  quiet_steps k [] n s run other = quiet_takes s n
  quiet_steps k (m ∷ rest) n s run other =
      by_atom (λ s run. quiet_steps (suc k) rest n s run (λ j h. other j (omega (arith, h)))) (is_atom m) run
    where
      by_atom : ((s : State) → IsRunFrom nodes header s (steps_of (suc k) rest ++ takes n) → AreQuiet nodes header i s (steps_of (suc k) rest ++ takes n))
          → (t : Bool) → IsRunFrom nodes header s (cond t (steps_of (suc k) rest) (step k ∷ steps_of (suc k) rest) ++ takes n)
          → AreQuiet nodes header i s (cond t (steps_of (suc k) rest) (step k ∷ steps_of (suc k) rest) ++ takes n)
      by_atom go true r = go s r
      by_atom go false r = (other_step s k (other k (omega arith) r.0.1), go (after_event nodes s (step k)) r.1)

  -- steps of all in turn, and takes, move it once at most
  pub once_steps : (k : ℕ) (rest : List Node) (n : ℕ) (s : State) → IsRunFrom nodes header s (steps_of k rest ++ takes n)
      → MovesOnce s (steps_of k rest ++ takes n)
  once_steps k [] n s run = once_takes s n
  once_steps k (m ∷ rest) n s run = by_atom (λ s run. once_steps (suc k) rest n s run) (is_atom m) run
    where
      by_place : ((s : State) → IsRunFrom nodes header s (steps_of (suc k) rest ++ takes n) → MovesOnce s (steps_of (suc k) rest ++ takes n))
          → IsRunFrom nodes header (after_event nodes s (step k)) (steps_of (suc k) rest ++ takes n)
          → (t : Bool) → (i == k) ≡ t → MovesOnce s (step k ∷ (steps_of (suc k) rest ++ takes n))
      by_place go r true e =
          let same : i ≡ k = grind (arith, e) in
          inr (quiet_steps (suc k) rest n (after_event nodes s (step k)) r (λ j h a x. absurd (omega (arith, h, x, same))))
      by_place go r false e = inl (other_step s k (λ same. grind (arith, e, same)), go (after_event nodes s (step k)) r)

      by_atom : ((s : State) → IsRunFrom nodes header s (steps_of (suc k) rest ++ takes n) → MovesOnce s (steps_of (suc k) rest ++ takes n))
          → (t : Bool) → IsRunFrom nodes header s (cond t (steps_of (suc k) rest) (step k ∷ steps_of (suc k) rest) ++ takes n)
          → MovesOnce s (cond t (steps_of (suc k) rest) (step k ∷ steps_of (suc k) rest) ++ takes n)
      by_atom go true r = go s r
      by_atom go false r = by_place go r.1 (i == k) refl

  module _ (order : IsPostOrder nodes) (l : i < length nodes) (other : node_is_atom nodes i ≡ false) where
    -- a row leaves what a node that is no atom shows
    quiet_row : (s : State) (r : Row) → IsSound nodes header order s → shown s i ≡ shown (after_event nodes s (row r)) i
    quiet_row s r h = by_front (s.fronts i) refl
      where
        kept : (after_event nodes s (row r)).fronts i ≡ s.fronts i
        kept = ap (λ t. cond t (Some (pos r.time)) (s.fronts i)) other

        by_front : (o : Front) → s.fronts i ≡ o → shown s i ≡ shown (after_event nodes s (row r)) i
        by_front None x =
            shown_by s i (first_time s.rows) None refl x
            ∙ sym (shown_by (after_event nodes s (row r)) i (first_time (after_event nodes s (row r)).rows) None refl (kept ∙ x))
        by_front (Some f) x =
            let bound = h.bounded i f l x in
            shown_by s i (first_time s.rows) (Some f) refl x
            ∙ sym (shown_by (after_event nodes s (row r)) i (first_time s.rows) (Some f)
            (first_same nodes header order s (row r) bound.last bound.is_last) (kept ∙ x))

    -- so do rows before other events
    pub once_rows : (more : List Row) (events : List Event) (s : State) → IsRunFrom nodes header s (rows_of more ++ events) → IsSound nodes header order s
        → ((s : State) → IsRunFrom nodes header s events → IsSound nodes header order s → MovesOnce s events) → MovesOnce s (rows_of more ++ events)
    once_rows [] events s run h on = on s run h
    once_rows (q ∷ more) events s run h on =
        inl (quiet_row s q h, once_rows more events (after_event nodes s (row q)) run.1 (sound_after nodes header order s (row q) run.0 h) on)

    -- a row, the steps and the takes
    pub once_pass : (r : Row) (n : ℕ) (s : State) → IsRunFrom nodes header s (row r ∷ (steps_of 0 nodes ++ takes n)) → IsSound nodes header order s
        → MovesOnce s (row r ∷ (steps_of 0 nodes ++ takes n))
    once_pass r n s run h = inl (quiet_row s r h, once_steps 0 nodes n (after_event nodes s (row r)) run.1)
