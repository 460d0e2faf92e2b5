-- An entry leaves what all nodes look at as it was.
use Rattle.std.proofs.Common.{◌≡◌, inl, inr, sym, subst, ◌∙◌, ℕ, ◌<◌, Some, List, length, arith}
use Rattle.std.specs.Prelude.{slice_get}
use Rattle.std.proofs.lemmas.Option.{same_Some, slice_get_within}
use Rattle.rational.specs.Time.{Rational}
use Rattle.rational.proofs.Lists.{slice_get_there}
use Rattle.stl_syntax.specs.declared.node.Node.{Node}
use Rattle.growing_sets.specs.Spans.{IsOn, Lies}
use Rattle.early_verdict.specs.Fitting.{HasStepped, Lists, lists_at}
use Rattle.early_verdict.specs.Standing.{SteppedTo}
use Rattle.early_verdict.specs.Living.{AreLive, HasShown, IsLive, IsShown, ShownTo}
use Rattle.early_verdict.specs.declared.sets.Sets.{Sets}
use Rattle.early_verdict.proofs.AllSets.{AreSound, is_shown, lists_are, no_there, shown_is, shown_within, yes_there}
use Rattle.early_verdict.proofs.LivingLemmas.{looks_as, parts_as}

module _ {nodes : List Node} {from : Rational} {old new old_shown new_shown : List Sets} (h : SteppedTo (length nodes) old new)
    (g : ShownTo (length nodes) new old_shown new_shown) (have : AreLive nodes from old old_shown) where
  -- a node's sets were there before the entry
  pub was_at : (i : ℕ) (s : Sets) → slice_get new i ≡ Some s → (r : Sets) × (slice_get old i ≡ Some r) × HasStepped r s
  was_at i s is =
      let l = slice_get_within new i s is in
      let c = h.count in
      let d = have.count in
      let w = slice_get_there old i (omega (arith, l, c)) in
      (w.0, w.1, h.each i w.0 s (omega (arith, l, c, d)) w.1 is)

  -- what a node shows now is of what it has and of what it showed before
  pub showed_at : (i : ℕ) (x : Sets) → slice_get new_shown i ≡ Some x
      → (s : Sets) × (slice_get new i ≡ Some s) × (w : Sets) × (slice_get old_shown i ≡ Some w) × HasShown w x s
  showed_at i x is =
      let l = slice_get_within new_shown i x is in
      let c = g.count in
      let d = have.shown_count in
      let e = have.count in
      let f = h.count in
      let w = slice_get_there old_shown i (omega (arith, l, c)) in
      let s = slice_get_there new i (omega (arith, l, c, d, e, f)) in
      (s.0, s.1, w.0, w.1, g.each i w.0 x (omega (arith, l, c, d)) w.1 is s.0 s.1)

  -- what was shown is shown still
  pub shown_still : (p : ℕ) (u : Rational) → IsShown old_shown p u → IsShown new_shown p u
  shown_still p u o =
      let c = g.count in
      let l = shown_within old_shown p u o in
      let x = slice_get_there new_shown p (omega (arith, c, l)) in
      let w = showed_at p x.0 x.1 in
      is_shown new_shown p x.0 u x.1 (subst (λ b. Lies b u) (sym w.4.no) (shown_is old_shown p w.2 u w.3 o))

  -- what is shown after the entry was shown before it
  pub shown_before : (p : ℕ) (u : Rational) → IsShown new_shown p u → IsShown old_shown p u
  shown_before p u o =
      let x = slice_get_there new_shown p (shown_within new_shown p u o) in
      let w = showed_at p x.0 x.1 in
      is_shown old_shown p w.2 u w.3 (subst (λ b. Lies b u) w.4.no (shown_is new_shown p x.0 u x.1 o))

  -- and the lists have what they had
  lists_still : (p : ℕ) (u : Rational)
      → (IsOn (lists_at old_shown p).yes u → IsOn (lists_at new_shown p).yes u) × (IsOn (lists_at old_shown p).no u → IsOn (lists_at new_shown p).no u)
  lists_still p u = (
    λ o.
        let l = yes_there old_shown p u o in
        let c = g.count in
        let x = slice_get_there new_shown p (omega (arith, c, l)) in
        let m = showed_at p x.0 x.1 in
        subst (λ (l : Lists). IsOn l.yes u) (sym (lists_are new_shown p x.0 x.1))
        (m.4.gains_yes.kept u (subst (λ (l : Lists). IsOn l.yes u) (lists_are old_shown p m.2 m.3) o)),
    λ o.
        let l = no_there old_shown p u o in
        let c = g.count in
        let x = slice_get_there new_shown p (omega (arith, c, l)) in
        let m = showed_at p x.0 x.1 in
        subst (λ (l : Lists). IsOn l.no u) (sym (lists_are new_shown p x.0 x.1))
        (m.4.gains_no.kept u (subst (λ (l : Lists). IsOn l.no u) (lists_are old_shown p m.2 m.3) o)),
  )

  live_still : (i : ℕ) (n : Node) (s x : Sets) → slice_get nodes i ≡ Some n → slice_get new i ≡ Some s
      → slice_get new_shown i ≡ Some x → IsLive from new_shown n s x
  live_still i n s x at is ix = by_old (was_at i s is) (showed_at i x ix)
    where
      by_old : ((r : Sets) × (slice_get old i ≡ Some r) × HasStepped r s)
          → ((s : Sets) × (slice_get new i ≡ Some s) × (w : Sets) × (slice_get old_shown i ≡ Some w) × HasShown w x s) → IsLive from new_shown n s x
      by_old (r, e, step) (s', e', w, f, sh) = record {
        own = k.own;
        yes = step.yes ∙ k.yes;
        no = step.no ∙ k.no;
        starts = k.starts;
        looks = looks_as from k.own k.own (λ t l. l) n old_shown new_shown r.parts s.parts (λ p e. shown_still p)
            (λ p e. shown_before p) (λ p e. lists_still p) step.parts k.looks;
        left = parts_as n r s old_shown new_shown step.parts (λ p l' q z. let m = showed_at p l' z in (m.2, m.3, m.4.no)) k.left;
        shown_yes = shows.yes ∙ k.shown_yes ∙ sym shows.no;
        shown_starts = λ t l. k.shown_starts t (subst (λ b. Lies b t) shows.no l);
        yes_within = λ t o. subst (λ b. Lies b t) (sym shows.no) (elim (shows.takes_yes.only t o) [
          | inl z ↦ k.yes_within t z
          | inr z ↦ subst (λ b. Lies b t) k.shown_yes z.0
        ]);
        no_within = λ t o. subst (λ b. Lies b t) (sym shows.no) (elim (shows.takes_no.only t o) [
          | inl z ↦ k.no_within t z
          | inr z ↦ z.0
        ]);
        shows_yes = λ t o l. let m = subst (λ b. Lies b t) shows.no l in elim (step.gains_yes.gained t o) [
          | inl z ↦ shows.gains_yes.kept t (k.shows_yes t z m)
          | inr z ↦ shows.takes_yes.has t (subst (λ b. Lies b t) (sym k.shown_yes) m) z
        ];
        shows_no = λ t o l. let m = subst (λ b. Lies b t) shows.no l in elim (step.gains_no.gained t o) [
          | inl z ↦ shows.gains_no.kept t (k.shows_no t z m)
          | inr z ↦ shows.takes_no.has t m z
        ];
        early = λ t l. elim (k.early t (subst (λ b. Lies b t) shows.no l)) [
          | inl z ↦ inl z
          | inr (inl z) ↦ inr (inl (shows.gains_yes.kept t z))
          | inr (inr z) ↦ inr (inr (shows.gains_no.kept t z))
        ];
      }
        where
          k : IsLive from old_shown n r w
          k = have.has i n r w at e f

          shows : HasShown w x s
          shows = subst (λ z. HasShown w x z) (same_Some s' s (sym e' ∙ is)) sh

  -- all nodes look at what they did
  pub live_on : AreLive nodes from new new_shown
  live_on = record { count = h.count ∙ have.count; shown_count = g.count ∙ have.shown_count; has = live_still }

  -- what is shown was so before, or is what the sets have
  pub sound_of : (Yes No : ℕ → Rational → Type 0)
      → ((i : ℕ) (w : Sets) (u : Rational) → slice_get old_shown i ≡ Some w → IsOn w.yes.spans.items u → Yes i u)
      → ((i : ℕ) (w : Sets) (u : Rational) → slice_get old_shown i ≡ Some w → IsOn w.no.spans.items u → No i u)
      → AreSound Yes No new new_shown
  sound_of Yes No f k = record {
    yes = λ i s x is ix u o. let r = was_at i s is in let m = showed_at i x ix in elim (m.4.takes_yes.only u o) [
      | inl z ↦ inl (f i m.2 u m.3 z)
      | inr z ↦ inr (r.2.gains_yes.own u (subst (λ q. IsOn q.yes.fresh.items u) (same_Some m.0 s (sym m.1 ∙ is)) z.1))
    ];
    no = λ i s x is ix u o. let r = was_at i s is in let m = showed_at i x ix in elim (m.4.takes_no.only u o) [
      | inl z ↦ inl (k i m.2 u m.3 z)
      | inr z ↦ inr (r.2.gains_no.own u (subst (λ q. IsOn q.no.fresh.items u) (same_Some m.0 s (sym m.1 ∙ is)) z.1))
    ];
  }

  -- the node at a place, and what it goes on from
  pub at_place : (i : ℕ) (w : Sets) → slice_get old_shown i ≡ Some w
      → (i < length nodes) × (n : Node) × (s : Sets) × IsLive from old_shown n s w
  at_place i w f =
      let a = slice_get_within old_shown i w f in
      let c = have.count in
      let d = have.shown_count in
      let l : i < length nodes = omega (arith, a, d) in
      let n = slice_get_there nodes i l in
      let s = slice_get_there old i (omega (arith, a, c, d)) in
      (l, n.0, s.0, have.has i n.0 s.0 w n.1 s.1 f)
