use Rattle.std.proofs.Common.{◌≡◌, ◌≤◌, ◌^◌, ◌⊎◌, true, sym, subst, ℤ, pos}
use Rattle.std.specs.Prelude.{IfSome, IsTrue, unsigned_abs, ◌<ℤ◌}
use Rattle.time_sets.specs.Bounds.{reach_of}
use Rattle.rational.specs.Places.{After}
use Rattle.time_sets.specs.Parts.{low_place}
use Rattle.growing_sets.proofs.WindowLemmas.{near_fits}
use Rattle.growing_sets.proofs.TickLemmas.{ends_at, begins_at, ended_at, begun_at}
use Rattle.growing_sets.proofs.window.Window.sees_itself.Goals as goal

pub returns-then-not-has_room-clause-no : goal.returns-then-not-has_room-clause-no
returns-then-not-has_room-clause-no c h t s =
    let w = c.args.self.now in
    let e = c.has_room.ensures.1 (subst (λ (k : ℤ). (pos 0 <ℤ k) ⊎ ((pos 0 ≡ k) × IsTrue true × IsTrue w.high_in)) (sym (near_fits w.high w.far))
    (ended_at w t s.ends)) in
    let f = c.if-not-has_room.true in
    absurd (cc)

pub returns-in-None-clause-yes : goal.returns-in-None-clause-yes
returns-in-None-clause-yes c h t =
    let w = c.args.self.now in
    let room = subst (λ (k : ℤ). (pos 0 <ℤ k) ⊎ ((pos 0 ≡ k) × IsTrue true × IsTrue w.high_in)) (near_fits w.high w.far)
    (c.has_room.ensures.0 c.if-not-has_room.false) in
    record { begins = subst (λ l. IfSome l (λ k. After (low_place k w.low_in t) t)) (sym c.in-None.is) tt; ends = ends_at w t room }

pub returns-in-Some-clause-yes : goal.returns-in-Some-clause-yes
returns-in-Some-clause-yes c h t =
    let w = c.args.self.now in
    let low = c.in-Some.low in
    let near : unsigned_abs low ≤ 2 ^ 32 = subst (λ l. reach_of l ≤ 2 ^ 32) c.in-Some.is w.near in
    let room = subst (λ (k : ℤ). (pos 0 <ℤ k) ⊎ ((pos 0 ≡ k) × IsTrue true × IsTrue w.high_in)) (near_fits w.high w.far)
    (c.has_room.ensures.0 c.if-not-has_room.false) in
    let begun = subst (λ (k : ℤ). (k <ℤ pos 0) ⊎ ((k ≡ pos 0) × IsTrue w.low_in × IsTrue true)) (near_fits low near) (c.has_room-in-Some.ensures.0 h) in
    record {
      begins = subst (λ l. IfSome l (λ k. After (low_place k w.low_in t) t)) (sym c.in-Some.is) (begins_at w low t begun);
      ends = ends_at w t room;
    }

pub returns-in-Some-clause-no : goal.returns-in-Some-clause-no
returns-in-Some-clause-no c h t s =
    let w = c.args.self.now in
    let low = c.in-Some.low in
    let near : unsigned_abs low ≤ 2 ^ 32 = subst (λ l. reach_of l ≤ 2 ^ 32) c.in-Some.is w.near in
    let e = c.has_room-in-Some.ensures.1 (subst (λ (k : ℤ). (k <ℤ pos 0) ⊎ ((k ≡ pos 0) × IsTrue w.low_in × IsTrue true)) (sym (near_fits low near))
    (begun_at w low t (subst (λ l. IfSome l (λ k. After (low_place k w.low_in t) t)) c.in-Some.is s.begins))) in
    absurd (cc)
