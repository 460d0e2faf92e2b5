-- The network at small runs: fronts, readiness, what is given out, and what is needed.
use Rattle.std.proofs.Common.{◌≡◌, pos, negsuc, [], ◌∷◌, ◌++◌, List, refl, true, lit<}
use Rattle.std.specs.Prelude.{Some, None}
use Rattle.rational.specs.Time.{whole, left_open}
use Rattle.stl_syntax.specs.Formula.{subformula}
use Rattle.stl_syntax.specs.declared.node.Node.TheVariants.{Eventually}
use Rattle.online_nodes.specs.Network.{Event, step, close, take, state, allowed_at, shown, IsRun, Emitted, needed, reach_back}
use Rattle.online_nodes.specs.Network.{row as came}
use Rattle.stl_syntax.proofs.Examples.{row, x_header, eventually_nodes}
use Rattle.stl_syntax.proofs.InstantExamples.{false_at_0, told}

-- after the rows 0 and 5 the window is ready and shows nothing; after its step it shows 3 and is not ready
abbrev two_rows : List Event
two_rows = came (row 0 (pos 0)) ∷ came (row 5 (pos 5)) ∷ []

front_before : shown (state eventually_nodes two_rows) 1 ≡ None
unfolding state
front_before = refl

ready_before : allowed_at eventually_nodes (state eventually_nodes two_rows) 1 ≡ Some (pos 3)
unfolding state
ready_before = refl

front_after : shown (state eventually_nodes (two_rows ++ step 1 ∷ [])) 1 ≡ Some (pos 3)
unfolding state
front_after = refl

not_ready_after : allowed_at eventually_nodes (state eventually_nodes (two_rows ++ step 1 ∷ [])) 1 ≡ (state eventually_nodes (two_rows ++ step 1 ∷ [])).fronts 1
unfolding state
not_ready_after = refl

-- a front below the start is a number, and is not shown
below_start : (state eventually_nodes (came (row 0 (pos 0)) ∷ step 1 ∷ [])).fronts 1 ≡ Some (negsuc 1)
unfolding state
below_start = refl

below_start_shown : shown (state eventually_nodes (came (row 0 (pos 0)) ∷ step 1 ∷ [])) 1 ≡ None
unfolding state
below_start_shown = refl

-- after the end the window's front is the last row's time
front_at_end : shown (state eventually_nodes (two_rows ++ close ∷ step 1 ∷ [])) 1 ≡ Some (pos 5)
unfolding state
front_at_end = refl

a_run : IsRun eventually_nodes x_header (two_rows ++ step 1 ∷ close ∷ take ∷ [])
a_run = ((refl, tt, refl), ((refl, record { lt = tt }, refl), ((lit< tt, refl), ((refl, λ e. cc), (tt, tt)))))

-- a row after the end is in no run
no_run : ¬ IsRun eventually_nodes x_header (came (row 0 (pos 0)) ∷ close ∷ came (row 5 (pos 5)) ∷ [])
no_run h = let e = h.1.1.0.0 in cc

-- the atom gives out this verdict at the first row
atom_emitted : Emitted eventually_nodes x_header (came (row 0 (pos 0)) ∷ []) 0 (false_at_0 ∷ [])
unfolding subformula
atom_emitted = (false_at_0 ∷ [], [], told, refl, refl)

-- the window gives out nothing for it
window_emitted : Emitted eventually_nodes x_header (came (row 0 (pos 0)) ∷ step 1 ∷ []) 1 []
window_emitted = ([], [], refl, ([], [], refl, refl, refl), refl)

-- the window `eventually[0,2]` at the number 3 needs (3,5] of its child at 5
still_needed : needed 0 (pos 5) (Some (pos 3)) (reach_back (Eventually 0 0 2 true true) true) ≡ left_open (whole (pos 3)) (whole (pos 5))
still_needed = refl
