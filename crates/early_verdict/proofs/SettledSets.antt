-- Sets that fit tell what rows settle.
use Rattle.std.proofs.Common.{◌≡◌, inl, inr, refl, ℕ, ◌<◌, false, Option, Some, None, List}
use Rattle.std.specs.Prelude.{MatchOption}
use Rattle.rational.specs.Time.{Rational, ◌≤ʳ◌}
use Rattle.stl_syntax.specs.Trace.{Trace, start}
use Rattle.stl_syntax.specs.Cells.{IsChild}
use Rattle.stl_syntax.specs.Formula.{Subformula, tree_of, HasChildrenBelow}
use Rattle.stl_syntax.specs.Early.{Settled, SettledNot}
use Rattle.stl_syntax.specs.WellFormed.{HasBounds}
use Rattle.stl_syntax.specs.declared.node.Node.{Node}
use Rattle.stl_syntax.specs.declared.node.Node.TheVariants.{Until, Eventually, Always, Since}
use Rattle.stl_syntax.proofs.PostOrderLemmas.{child_below}
use Rattle.growing_sets.specs.Spans.{Lies, AreTidy}
use Rattle.early_verdict.specs.Readings.{SinceHolds, SinceFails}
use Rattle.early_verdict.specs.Fitting.{lists_at, SayBoth, SayOfParts, SinceHolding, SinceFailing, AreSetsTidy, ArePartsTidy, Fits}
use Rattle.early_verdict.specs.Living.{IsShown, Known, LooksAlong, LooksAt, ReachesBack}
use Rattle.growing_sets.specs.declared.stretch.Stretch.{Stretch}
use Rattle.early_verdict.specs.declared.sets.Sets.{Sets}
use Rattle.early_verdict.specs.declared.sets.Parts.{Parts}
use Rattle.early_verdict.proofs.NeverBoth.{never_both}
use Rattle.early_verdict.proofs.NodeReads.{FalseBy, ListedNo, ListedYes, TrueBy, read_listed, read_on}
use Rattle.early_verdict.proofs.SetsTell.{both_alike, tells_alike}
use Rattle.early_verdict.proofs.SettledBySets.{SaysSince, reaches_along, says_since, until_fits}

module _ (tr : Trace) (own : Stretch) (s : Sets) (is_yes : s.yes.bounds ≡ own) (is_no : s.no.bounds ≡ own)
    (from : (t : Rational) → Lies own t → start tr ≤ʳ t) (tidy : AreSetsTidy s) (shown : List Sets)
    (tidy_at : (p : ℕ) → AreTidy (lists_at shown p).no) where
  -- the sets of a since say what the lists of its operands make of it
  since_parts : (p q a : ℕ) (b : Option ℕ) → ((u : Rational) → ListedYes shown p u → ¬ (ListedNo shown p u))
      → ((u : Rational) → ListedYes shown q u → ¬ (ListedNo shown q u))
      → ((t : Rational) → Lies own t → LooksAlong (start tr) p q a b shown t) → (o : Option Parts)
      → MatchOption o (Unit {0}) ArePartsTidy → MatchOption o (Unit {0}) (ReachesBack (start tr) b p shown own)
      → MatchOption o ⊥ (λ z. SinceHolding tr a b (lists_at shown p) (lists_at shown q) z.holding
      × SinceFailing tr a b (lists_at shown p) (lists_at shown q) z.failing × SayOfParts s z)
      → SayBoth s (SinceHolds tr a b (ListedYes shown p) (ListedYes shown q)) (SinceFails tr a b (ListedNo shown p) (ListedNo shown q))
  since_parts p q a b apart_p apart_q far None ty r h = absurd h
  since_parts p q a b apart_p apart_q far (Some z) ty r (h, f, say) =
      both_alike s is_yes is_no (λ t l. ((says t l).holds, (says t l).fails)) (λ t l. ((says t l).held, (says t l).failed)) say
    where
      says : (t : Rational) → Lies own t → SaysSince tr a b (lists_at shown p) (lists_at shown q) z t
      says t l =
          says_since z h f ty (tidy_at q) t (r.some t l) (r.never t l) (λ w m. apart_p w) (λ w m. apart_q w) (reaches_along tr a q r t l (far t l))

  -- so do the sets of any node
  fits_say : (n : Node) → HasBounds n → LooksAt n (start tr) shown own s.parts
      → ((p : ℕ) → IsChild n p → (u : Rational) → ListedYes shown p u → ¬ (ListedNo shown p u)) → Fits n false tr (lists_at shown) s
      → SayBoth s (TrueBy n tr (ListedYes shown) (ListedNo shown)) (FalseBy n tr (ListedYes shown) (ListedNo shown))
  fits_say (Until p q a b) order far apart h =
      until_fits tr own (lists_at shown p) (lists_at shown q) s is_yes is_no from tidy (tidy_at q) false a b order far.1 h
  fits_say (Since p q a b) order far apart h =
      since_parts p q a b (apart p (inl refl)) (apart q (inr refl)) far.0 s.parts tidy.parts far.1 h
  fits_say _ order far apart h = h

  -- what is so of a node by what is settled of its children is settled of it
  settled_so : (sub : ℕ → Subformula) (i : ℕ) (n : Node)
      → SayBoth s (TrueBy n tr (λ p. Settled (sub p) tr) (λ p. SettledNot (sub p) tr)) (FalseBy n tr (λ p. Settled (sub p) tr) (λ p. SettledNot (sub p) tr))
      → SayBoth s (Settled (tree_of sub i n) tr) (SettledNot (tree_of sub i n) tr)
  settled_so sub i (Until p q a b) h = record { yes = h.yes; no = tells_alike h.no (λ t l f u o. f u o tt) (λ t l f u o c. f u o) }
  settled_so sub i (Eventually p a b j k) h = record { yes = h.yes; no = tells_alike h.no (λ t l f u o. f u o tt) (λ t l f u o c. f u o) }
  settled_so sub i (Always p a b j k) h = record { yes = tells_alike h.yes (λ t l f u o. f u o tt) (λ t l f u o c. f u o); no = h.no }
  settled_so sub i _ h = h

  module _ (sub : ℕ → Subformula) (i : ℕ)
      (known : (p : ℕ) → p < i → Known (IsShown shown p) (lists_at shown p) (Settled (sub p) tr) (SettledNot (sub p) tr)) where
    -- a node's sets that fit tell what is settled of it
    pub node_told : (n : Node) → HasChildrenBelow i n → HasBounds n → LooksAt n (start tr) shown own s.parts
        → Fits n false tr (lists_at shown) s → SayBoth s (Settled (tree_of sub i n) tr) (SettledNot (tree_of sub i n) tr)
    node_told n below order far h = settled_so sub i n (both_alike s is_yes is_no
        (λ t l. read_on (ListedYes shown) (ListedNo shown) (λ p. Settled (sub p) tr) (λ p. SettledNot (sub p) tr) tr n
        (λ p c u. ((child p c).yes_out u, (child p c).no_out u)) t)
        (read_listed tr shown (λ p. Settled (sub p) tr) (λ p. SettledNot (sub p) tr) (λ p u. never_both (sub p) tr u) own s.parts n child far)
        (fits_say n order far (λ p c u y m. never_both (sub p) tr u ((child p c).yes_out u y) ((child p c).no_out u m)) h))
      where
        child : (p : ℕ) → IsChild n p → Known (IsShown shown p) (lists_at shown p) (Settled (sub p) tr) (SettledNot (sub p) tr)
        child p c = known p (child_below i p n below c)
