use Rattle.std.proofs.Common.{rules, ◌≡◌, ℕ, ℤ, pos, to_z, of_z, refl, sym, ap, subst, ◌∙◌, ◌<◌, ◌^◌, ◌+ℤ◌, ◌≤ℤ◌, Bool, true, false, Option, Some, None, arith}
use Rattle.std.specs.Int.{w64}
use Rattle.std.specs.Prelude.{MatchOption, cond, int_lt, neg_ℤ}
use Rattle.std.proofs.lemmas.Int.{ints, to_z-of_z}
use Rattle.std.proofs.lemmas.Option.{same_Some}
use Rattle.rational.specs.Rational.{◌≈◌, whole}
use Rattle.rational.specs.Time.{Rational, shifted}
use Rattle.rational.proofs.Order.{same_sym}
use Rattle.std.proofs.lemmas.Result.{on_err_weaker, on_ok_weaker}
use Rattle.frac128.specs.Value.{value}
use Rattle.online_robust.specs.Slides.{CanSlide, Course, HasBegun, HasRead, back_offset}
use Rattle.online_robust.specs.Steps.{Belongs, IsStreamedFault, Step, StandsNow, begin_of, from_of}
use Rattle.online_robust.specs.declared.operator.Operator.TheVariants as Op
use Rattle.online_robust.specs.declared.slide.Slide.{Slide}
use Rattle.online_robust.specs.declared.slide.Window.{Window}
use Rattle.online_robust.proofs.RefusalsBeside.{each_told}
use Rattle.online_robust.proofs.SlideAgain.{moved_whole}
use Rattle.online_robust.proofs.SlideBodies.{course_of, slide_cause, slide_told, small}
use Rattle.online_robust.proofs.SlideSweeps.{Slides, may_slide, slide_edges, slide_stands}
use Rattle.online_robust.proofs.slide.Slide.sweep.Goals.{After-of-end}
use Rattle.online_robust.proofs.slide.Slide.sweep.Goals as goal

pub unreachable-requires : goal.unreachable-requires
unreachable-requires c =
    let (t, place, b) = c.requires.can in
    let e : ◌≡◌ {A = Option _} (Some (begin_of t)) None = sym b.start ∙ sym c.start.ensures ∙ c.in_default.is in absurd (let z = e in cc)

pub begin-requires : goal.begin-requires
begin-requires c =
    let (t, place, b) = c.requires.can in
    small t c.args.self.now c.args.edges.now c.args.to b

pub unreachable-requires-in_default-stream : goal.unreachable-requires-in_default-stream
unreachable-requires-in_default-stream c =
    let e : ◌≡◌ {A = Option _} (Some c.begin.ensures.0) None = sym (ap (λ (y : Slide). y.stream) c.begin.ensures.1) ∙ c.in_default-stream.is in
    absurd (let z = e in cc)

-- it goes on to the number
ends : (c : After-of-end) → value c.of-end.result ≈ whole (pos c.args.to)
ends c =
    let to : to_z w64 (of_z w64 c.from.result) ≡ pos c.args.to = search rules in
    subst (λ n. value c.of-end.result ≈ whole n) to c.of-end.ensures.value

module _ (c : After-of-end) (t : Step) (b : Belongs t (Op.Slide c.args.self.now) c.args.edges.now c.args.to) where
  -- the first row is that of the turn
  first : c.in-Some.start ≡ begin_of t
  first = same_Some _ _ (sym c.in-Some.is ∙ c.start.ensures ∙ b.start)

  -- what goes over the input
  stream_is : c.in-Some-stream.stream ≡ c.begin.ensures.0
  stream_is = same_Some _ _ (sym c.in-Some-stream.is ∙ ap (λ (y : Slide). y.stream) c.begin.ensures.1)

  -- it may go on
  now : Slides t c.args.self.now c.args.edges.now c.args.to b c.in-Some-stream.stream (value c.of-end.result)
  now = may_slide t c.args.self.now c.args.edges.now c.args.to b (value c.of-end.result) (ends c) c.in-Some-stream.stream
      (subst (λ (n : ℕ). MatchOption c.args.self.now.stream (HasBegun c.args.self.now.window n c.in-Some-stream.stream)
      (λ s. c.in-Some-stream.stream ≡ s)) first
      (subst (λ w. MatchOption c.args.self.now.stream (HasBegun c.args.self.now.window c.in-Some.start w) (λ s. w ≡ s)) (sym stream_is) c.begin.ensures.2))

  abbrev x : Course
  x = course_of t c.args.self.now c.args.edges.now c.args.to b (value c.of-end.result) now.from

  window : x.window ≡ c.begin.new.self.window
  window = sym (ap (λ (y : Slide). y.window) c.begin.ensures.1)

  can : CanSlide x (from_of t) c.in-Some-stream.stream c.begin.new.self.kept c.args.edges.now
  can = subst (λ k. CanSlide x (from_of t) c.in-Some-stream.stream k c.args.edges.now) (sym (ap (λ (y : Slide). y.kept) c.begin.ensures.1)) now.can

pub go_to-requires-clause-can : goal.go_to-requires-clause-can
go_to-requires-clause-can c =
    let (t, place, b) = c.requires.can in
    let a = (goal.at.go_to-requires-clause-can c).After-of-end in
    (x a t b, from_of t, can a t b, window a t b, refl)

pub returns-clause-wide : goal.returns-clause-wide
returns-clause-wide c t b =
    let a = (goal.at.returns-clause-wide c).After-of-end in
    let z = c.args.self.now in
    let e = c.args.edges.now in
    on_err_weaker c.go_to.result
    (λ wide. each_told (IsStreamedFault t) c.go_to.new.fault tt wide (slide_cause t z e c.args.to b (value c.of-end.result) (now a t b).from (ends a)))
    (c.go_to.ensures.wide (x a t b) (from_of t) (can a t b) (window a t b) refl)

pub returns-clause-out : goal.returns-clause-out
returns-clause-out c =
    let a = (goal.at.returns-clause-out c).After-of-end in
    let z = c.args.self.now in
    let e = c.args.edges.now in
    let end = value c.of-end.result in
    let new = c.go_to.new in
    on_ok_weaker c.go_to.result
    (λ g. record {
      swept = g.swept;
      between = g.between;
      told = λ t b. slide_told t z e c.args.to b end (now a t b).from (ends a) g.swept
          (g.told (x a t b) (from_of t) (can a t b) (window a t b) refl);
      edges = λ t b. slide_edges t z e c.args.to b end (ends a) g.between
          (subst (λ (w : Window). HasRead w.of e (shifted end (back_offset w)) g.between) (sym (window a t b)) g.read);
      stands = λ t b. subst (λ (w : Window). StandsNow t (Op.Slide (record { window = w; stream = Some new.stream; kept = new.kept })) g.between c.args.to)
          (window a t b)
          (slide_stands t z e c.args.to b end (ends a) (now a t b).from c.in-Some-stream.stream new.stream new.kept g.between (now a t b).can g.way
          (g.gone (x a t b) (from_of t) (can a t b) (window a t b) refl));
      put = g.put;
    })
    c.go_to.ensures.gone

-- the offset by which a window needs its input no more is small
back_small : (w : Window) → neg_ℤ (pos (2 ^ 32)) ≤ℤ w.low → w.low ≤ℤ w.high → w.high ≤ℤ pos (2 ^ 32)
    → (neg_ℤ (pos (2 ^ 32)) ≤ℤ back_offset w) × (back_offset w ≤ℤ pos (2 ^ 32))
back_small w from order to = by_test (int_lt w.low (neg_ℤ (pos 4294967295)))
  where
    by_test : (b : Bool) → (neg_ℤ (pos (2 ^ 32)) ≤ℤ cond b w.high w.low) × (cond b w.high w.low ≤ℤ pos (2 ^ 32))
    by_test true = (omega (arith, ints, from, order), to)
    by_test false = (from, omega (arith, ints, order, to))

-- a number of 32 bits and a small offset are added as they are
limit_is : (to : ℕ) (n k : ℤ) (t : Rational) → to < 2 ^ 32 → n ≡ pos to → (neg_ℤ (pos (2 ^ 32)) ≤ℤ k) × (k ≤ℤ pos (2 ^ 32)) → t ≈ whole (pos to)
    → whole (to_z w64 (of_z w64 (to_z w64 (of_z w64 n) +ℤ to_z w64 (of_z w64 k)))) ≈ shifted t k
limit_is to n k t fits is small same =
    let low = small.0 in
    let high = small.1 in
    let number : to_z w64 (of_z w64 n) ≡ n = to_z-of_z w64 n (omega (arith, ints, fits, is)) in
    let back : to_z w64 (of_z w64 k) ≡ k = to_z-of_z w64 k (omega (arith, ints, low, high)) in
    let both : to_z w64 (of_z w64 (n +ℤ k)) ≡ n +ℤ k = to_z-of_z w64 (n +ℤ k) (omega (arith, ints, fits, is, low, high)) in
    subst (λ m. whole (to_z w64 (of_z w64 (m +ℤ to_z w64 (of_z w64 k)))) ≈ shifted t k) (sym number)
    (subst (λ m. whole (to_z w64 (of_z w64 (n +ℤ m))) ≈ shifted t k) (sym back)
    (subst (λ m. whole m ≈ shifted t k) (sym both) (same_sym (moved_whole t n k (subst (λ m. t ≈ whole m) (sym is) same)))))

pub go_to-requires-clause-limit : goal.go_to-requires-clause-limit
go_to-requires-clause-limit c =
    let (t, place, b) = c.requires.can in
    let s = small t c.args.self.now c.args.edges.now c.args.to b in
    let window : c.begin.new.self.window ≡ c.args.self.now.window = ap (λ (y : Slide). y.window) c.begin.ensures.1 in
    let bound = subst (λ (w : Window). (neg_ℤ (pos (2 ^ 32)) ≤ℤ back_offset w) × (back_offset w ≤ℤ pos (2 ^ 32))) (sym window)
    (back_small c.args.self.now.window s.from s.order s.to) in
    subst (λ k. whole (to_z w64 (of_z w64 (to_z w64 (of_z w64 c.from-2.result) +ℤ to_z w64 (of_z w64 k)))) ≈ shifted (value c.of-end.result)
    (back_offset c.begin.new.self.window)) (sym c.back.ensures)
    (limit_is c.args.to c.from-2.result (back_offset c.begin.new.self.window) (value c.of-end.result) c.ranges.to.fits c.from-2.ensures bound
    (ends (goal.at.go_to-requires-clause-limit c).After-of-end))
