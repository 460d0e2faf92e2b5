use Rattle.std.proofs.Common.{◌≡◌, ◌≤◌, ◌^◌, ◌⊎◌, Bool, true, false, not, refl, sym, subst, to_z, of_z}
use Rattle.std.specs.Prelude.{IfSome, IsTrue, IsFalse, unsigned_abs, ◌<ℤ◌}
use Rattle.std.specs.Int.{w64}
use Rattle.time_sets.specs.Bounds.{reach_of}
use Rattle.rational.specs.Places.{After, Before}
use Rattle.time_sets.specs.Parts.{low_place, high_place}
use Rattle.rational.proofs.PlaceLemmas.{before_through}
use Rattle.time_sets.proofs.WindowPlaces.{room_in, room_out}
use Rattle.growing_sets.proofs.WindowLemmas.{near_fits}
use Rattle.growing_sets.proofs.window.Window.is_never.Goals as goal

not_true : (b : Bool) → IsTrue (not b) → IsTrue b → ⊥
not_true true h k = absurd (let x : false ≡ true = h in cc)
not_true false h k = absurd (let x : false ≡ true = k in cc)

of_not_false : (b : Bool) → IsFalse (not b) → IsTrue b
of_not_false true h = refl
of_not_false false h = absurd (let x : true ≡ false = h in cc)

pub returns-in-Some-clause-never : goal.returns-in-Some-clause-never
returns-in-Some-clause-never c h t u s =
    let w = c.args.self.now in
    let near : unsigned_abs c.in-Some.low ≤ 2 ^ 32 = subst (λ l. reach_of l ≤ 2 ^ 32) c.in-Some.is w.near in
    let low = subst (λ l. IfSome l (λ k. After (low_place k w.low_in t) u)) c.in-Some.is s.begins in
    let room = room_out c.in-Some.low w.high w.low_in w.high_in t
    (before_through (low_place c.in-Some.low w.low_in t) (high_place w.high w.high_in t) u low s.ends) in
    let e = near_fits c.in-Some.low near in
    let f = near_fits w.high w.far in
    not_true c.has_room.result h
    (c.has_room.ensures.1 (subst (λ j. (j <ℤ to_z w64 (of_z w64 w.high)) ⊎ ((j ≡ to_z w64 (of_z w64 w.high)) × IsTrue w.low_in × IsTrue w.high_in)) (sym e)
    (subst (λ k. (c.in-Some.low <ℤ k) ⊎ ((c.in-Some.low ≡ k) × IsTrue w.low_in × IsTrue w.high_in)) (sym f) room)))

pub returns-in-Some-clause-room : goal.returns-in-Some-clause-room
returns-in-Some-clause-room c h t =
    let w = c.args.self.now in
    let near : unsigned_abs c.in-Some.low ≤ 2 ^ 32 = subst (λ l. reach_of l ≤ 2 ^ 32) c.in-Some.is w.near in
    let e = near_fits c.in-Some.low near in
    let f = near_fits w.high w.far in
    let room = subst (λ k. (c.in-Some.low <ℤ k) ⊎ ((c.in-Some.low ≡ k) × IsTrue w.low_in × IsTrue w.high_in)) f
    (subst (λ j. (j <ℤ to_z w64 (of_z w64 w.high)) ⊎ ((j ≡ to_z w64 (of_z w64 w.high)) × IsTrue w.low_in × IsTrue w.high_in)) e
    (c.has_room.ensures.0 (of_not_false c.has_room.result h))) in
    subst (λ l. IfSome l (λ k. Before (low_place k w.low_in t) (high_place w.high w.high_in t))) (sym c.in-Some.is)
    (room_in c.in-Some.low w.high w.low_in w.high_in t room)
