use Rattle.std.proofs.Common.{◌≡◌, ◌+◌, ◌<◌, length, Some, refl, sym, subst, arith}
use Rattle.std.specs.Prelude.{slice_get}
use Rattle.std.proofs.lemmas.Option.{slice_get_read}
use Rattle.rational.specs.Time.{Within, ◌<ʳ◌}
use Rattle.frac128.specs.Value.{value}
use Rattle.pl_signal.specs.Knots.{time, start, stop}
use Rattle.pl_signal.proofs.SampleLemmas.{earlier, IsSample, read_point, read_after, read_none}
use Rattle.pl_signal.proofs.signal.Signal.at.Goals as goal

pub returns-in-Equal : goal.returns-in-Equal
returns-in-Equal g c =
    let here : slice_get c.self.inside.knots.items c.place_of-place.result ≡ Some c.index-knot.result.now =
    slice_get_read c.self.inside.knots.items (length c.self.inside.knots.items) c.place_of-place.result c.index-knot.result.now refl
    (subst (λ ks. c.place_of-place.result < length ks) c.deref.ensures.value c.place_of-place.ensures.inside) c.index-knot.ensures in
    subst (λ ks. IsSample g.P.Shape ks (value c.args.t.now) c.index-knot.result.now.point) c.self.view_is
    (read_point g.P.Shape c.self.inside.knots.items c.place_of-place.result c.index-knot.result.now
    (value c.args.t.now) c.self.invariant here c.in-Equal.ensures)

pub returns-then-place-len : goal.returns-then-place-len
returns-then-place-len g c =
    let here : slice_get c.self.inside.knots.items c.place_of-place.result ≡ Some c.index-knot.result.now =
    slice_get_read c.self.inside.knots.items (length c.self.inside.knots.items) c.place_of-place.result c.index-knot.result.now refl
    (subst (λ ks. c.place_of-place.result < length ks) c.deref.ensures.value c.place_of-place.ensures.inside) c.index-knot.ensures in
    let last : length c.self.inside.knots.items ≡ c.place_of-place.result + 1 = omega arith in
    let order : time c.index-knot.result.now <ʳ value c.args.t.now =
    earlier c.cmp-2.result c.cmp-2.ensures
    (c.place_of-place.ensures.not_later c.index-knot.result.now
    (subst (λ ks. slice_get ks c.place_of-place.result ≡ Some c.index-knot.result.now) (sym c.deref.ensures.value) here)) c.in_default-cmp.not-Equal in
    subst (λ ks. ¬ (Within (start ks) (stop ks) (value c.args.t.now))) c.self.view_is
    (read_none g.P.Shape c.self.inside.knots.items c.place_of-place.result c.index-knot.result.now (value c.args.t.now) here last order)

pub returns : goal.returns
returns g c =
    let here : slice_get c.self.inside.knots.items c.place_of-place.result ≡ Some c.index-knot.result.now =
    slice_get_read c.self.inside.knots.items (length c.self.inside.knots.items) c.place_of-place.result c.index-knot.result.now refl
    (subst (λ ks. c.place_of-place.result < length ks) c.deref.ensures.value c.place_of-place.ensures.inside) c.index-knot.ensures in
    let more : c.place_of-place.result + 1 < length c.self.inside.knots.items = let n = c.if-place-len.false in let l =
    c.place_of-place.ensures.inside in let d = c.deref.ensures.len in let m = c.len.ensures in omega arith in
    let order : time c.index-knot.result.now <ʳ value c.args.t.now =
    earlier c.cmp-2.result c.cmp-2.ensures
    (c.place_of-place.ensures.not_later c.index-knot.result.now
    (subst (λ ks. slice_get ks c.place_of-place.result ≡ Some c.index-knot.result.now) (sym c.deref.ensures.value) here)) c.in_default-cmp.not-Equal in
    subst (λ ks. IsSample g.P.Shape ks (value c.args.t.now) c.index-knot.result.now.after) c.self.view_is
    (read_after g.P.Shape c.self.inside.knots.items c.place_of-place.result c.index-knot.result.now (value c.args.t.now) c.self.invariant here more order
    (λ n h. c.place_of-place.ensures.later n (subst (λ ks. slice_get ks (c.place_of-place.result + 1) ≡ Some n) (sym c.deref.ensures.value) h)))
