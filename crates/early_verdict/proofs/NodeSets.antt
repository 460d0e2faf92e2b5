-- What nodes go on from: of atoms what they show, and of operators sets of their own.
use Rattle.std.proofs.Common.{◌≡◌, ◌≢◌, ◌⊎◌, inl, inr, refl, sym, ap, subst, ◌∙◌, ℕ, zero, suc, ◌≤◌}
use Rattle.std.proofs.Common.{Option, Some, None, List, [], ◌∷◌, length, arith}
use Rattle.std.specs.Prelude.{slice_get}
use Rattle.std.proofs.lemmas.Option.{same_Some, slice_get_within}
use Rattle.rational.specs.Time.{Rational}
use Rattle.rational.proofs.Lists.{slice_get_there}
use Rattle.stl_syntax.specs.Trace.{Trace}
use Rattle.stl_syntax.specs.declared.atom.Atom.{Atom}
use Rattle.stl_syntax.specs.declared.node.Node.{Node}
use Rattle.stl_syntax.specs.declared.node.Node.TheVariants.{Atom as Leaf}
use Rattle.early_verdict.specs.Fitting.{AreSetsTidy}
use Rattle.early_verdict.specs.Changing.{ChangesAt}
use Rattle.early_verdict.specs.Standing.{IsOperator, IsOperatorAt, own_list, own_sets}
use Rattle.early_verdict.specs.Living.{AreLive, IsLive, NetIs}
use Rattle.early_verdict.specs.Letting.{AreLess, HasShedAt, IsInside}
use Rattle.early_verdict.specs.declared.sets.Sets.{Sets}
use Rattle.early_verdict.proofs.LivingLemmas.{live_leaf}
use Rattle.early_verdict.proofs.FewerTimes.{Beside, StayBeside, live_inside, shed_stands}

-- an operator goes on from its own
own_operator : (n : Node) (s x : Sets) → IsOperator n → own_sets n s x ≡ s
own_operator (Leaf a) s x h = absurd h
own_operator _ s x h = refl

-- what stands at a place of each list
own_here : (nodes : List Node) (live shown : List Sets) (i : ℕ) (n : Node) (s x : Sets) → slice_get nodes i ≡ Some n → slice_get live i ≡ Some s
    → slice_get shown i ≡ Some x → slice_get (own_list nodes live shown) i ≡ Some (own_sets n s x)
own_here [] live shown i n s x e f g = absurd (let h : None ≡ Some n = e in cc)
own_here (m ∷ nodes) [] shown i n s x e f g = absurd (let h : None ≡ Some s = f in cc)
own_here (m ∷ nodes) (r ∷ live) [] i n s x e f g = absurd (let h : None ≡ Some x = g in cc)
own_here (m ∷ nodes) (r ∷ live) (y ∷ shown) zero n s x e f g =
    ap Some (ap (λ k. own_sets k r y) (same_Some m n e) ∙ ap (λ k. own_sets n k y) (same_Some r s f) ∙ ap (λ k. own_sets n s k) (same_Some y x g))
own_here (m ∷ nodes) (r ∷ live) (y ∷ shown) (suc i) n s x e f g = own_here nodes live shown i n s x e f g

-- an operator's are those that are stored
pub own_stored : (nodes : List Node) (live shown : List Sets) (i : ℕ) → IsOperatorAt nodes i → length shown ≡ length nodes → (s : Sets)
    → slice_get live i ≡ Some s → slice_get (own_list nodes live shown) i ≡ Some s
own_stored nodes live shown i (n, at, plain) count s is =
    let k = slice_get_within nodes i n at in
    let x = slice_get_there shown i (omega (arith, k, count)) in
    own_here nodes live shown i n s x.0 at is x.1 ∙ ap Some (own_operator n s x.0 plain)

-- what a node goes on from is of the node there, of its own sets and of what it shows
own_is : (nodes : List Node) (live shown : List Sets) (i : ℕ) (r : Sets) → slice_get (own_list nodes live shown) i ≡ Some r
    → (n : Node) × (s : Sets) × (x : Sets) × (slice_get nodes i ≡ Some n) × (slice_get live i ≡ Some s) × (slice_get shown i ≡ Some x) × (r ≡ own_sets n s x)
own_is [] live shown i r e = absurd (let h : None ≡ Some r = e in cc)
own_is (m ∷ nodes) [] shown i r e = absurd (let h : None ≡ Some r = e in cc)
own_is (m ∷ nodes) (s ∷ live) [] i r e = absurd (let h : None ≡ Some r = e in cc)
own_is (m ∷ nodes) (s ∷ live) (x ∷ shown) zero r e = (m, s, x, refl, refl, refl, sym (same_Some (own_sets m s x) r e))
own_is (m ∷ nodes) (s ∷ live) (x ∷ shown) (suc i) r e = own_is nodes live shown i r e

-- there are as many as nodes
pub own_count : (nodes : List Node) (live shown : List Sets) → length nodes ≤ length live → length shown ≡ length nodes
    → length (own_list nodes live shown) ≡ length nodes
own_count [] live shown e f = refl
own_count (n ∷ nodes) [] shown e f = absurd (omega (arith, e))
own_count (n ∷ nodes) (s ∷ live) [] e f = absurd (omega (arith, f))
own_count (n ∷ nodes) (s ∷ live) (x ∷ shown) e f = ap suc (own_count nodes live shown (omega (arith, e)) (omega (arith, f)))

-- and no more than are stored
pub own_few : (nodes : List Node) (live shown : List Sets) → length (own_list nodes live shown) ≤ length live
own_few [] live shown = omega arith
own_few (n ∷ nodes) [] shown = omega arith
own_few (n ∷ nodes) (s ∷ live) [] = omega arith
own_few (n ∷ nodes) (s ∷ live) (x ∷ shown) = let h = own_few nodes live shown in omega (arith, h)

-- what all sets are and all that are shown is so of what the nodes go on from
pub own_all : (P : Sets → Type 0) (nodes : List Node) (live shown : List Sets) → ((i : ℕ) (s : Sets) → slice_get live i ≡ Some s → P s)
    → ((i : ℕ) (x : Sets) → slice_get shown i ≡ Some x → P x) → (i : ℕ) (r : Sets) → slice_get (own_list nodes live shown) i ≡ Some r → P r
own_all P nodes live shown f g i r e =
    let (n, s, x, a, b, c, d) = own_is nodes live shown i r e in
    subst P (sym d) (by_node n s x (f i s b) (g i x c))
  where
    by_node : (n : Node) (s x : Sets) → P s → P x → P (own_sets n s x)
    by_node (Leaf a) s x p q = q
    by_node _ s x p q = p

follows : (nodes : List Node) (live shown live' shown' : List Sets) (j : ℕ) → slice_get live' j ≡ slice_get live j → slice_get shown' j ≡ slice_get shown j
    → (r : Sets) → slice_get (own_list nodes live shown) j ≡ Some r → slice_get (own_list nodes live' shown') j ≡ Some r
follows nodes live shown live' shown' j e f r h =
    let (n, s, x, a, b, c, d) = own_is nodes live shown j r h in own_here nodes live' shown' j n s x a (e ∙ b) (f ∙ c) ∙ ap Some (sym d)

same_option : (o p : Option Sets) → ((r : Sets) → o ≡ Some r → p ≡ Some r) → ((r : Sets) → p ≡ Some r → o ≡ Some r) → o ≡ p
same_option None None f g = refl
same_option None (Some r) f g = g r refl
same_option (Some r) p f g = sym (f r refl)

-- where both lists are as they were
pub own_same : (nodes : List Node) (live shown live' shown' : List Sets) (j : ℕ) → slice_get live' j ≡ slice_get live j → slice_get shown' j ≡ slice_get shown j
    → slice_get (own_list nodes live' shown') j ≡ slice_get (own_list nodes live shown) j
own_same nodes live shown live' shown' j e f =
    same_option _ _ (follows nodes live' shown' live shown j (sym e) (sym f)) (follows nodes live shown live' shown' j e f)

-- an atom's are those that it shows
pub own_leaf : (nodes : List Node) (live shown : List Sets) (i : ℕ) (a : Atom) → slice_get nodes i ≡ Some (Leaf a) → length nodes ≤ length live
    → (x : Sets) → slice_get shown i ≡ Some x → slice_get (own_list nodes live shown) i ≡ Some x
own_leaf nodes live shown i a at few x is =
    let k = slice_get_within nodes i (Leaf a) at in
    let s = slice_get_there live i (omega (arith, k, few)) in
    own_here nodes live shown i (Leaf a) s.0 x at s.1 is

-- they change as those do
abbrev pub own_changed : {R : Sets → Sets → Type 0} (nodes : List Node) (live shown shown' : List Sets) (i : ℕ) (a : Atom) → slice_get nodes i ≡ Some (Leaf a)
    → length nodes ≤ length live → length shown ≡ length nodes → ChangesAt i shown shown' R
    → ChangesAt i (own_list nodes live shown) (own_list nodes live shown') R
own_changed nodes live shown shown' i a at few count c = record {
  was = c.was;
  is = c.is;
  at_old = own_leaf nodes live shown i a at few c.was c.at_old;
  at_new = own_leaf nodes live shown' i a at few c.is c.at_new;
  others = λ j n. own_same nodes live shown live shown' j refl (c.others j n);
  count = own_count nodes live shown' few (c.count ∙ count) ∙ sym (own_count nodes live shown few count);
  by = c.by;
}

-- those of an operator change as they are stored, whatever it shows then
abbrev pub own_stepped : {R : Sets → Sets → Type 0} (nodes : List Node) (live live' shown shown' : List Sets) (i : ℕ) → IsOperatorAt nodes i
    → length nodes ≤ length live → length shown ≡ length nodes → ChangesAt i live live' R
    → length shown' ≡ length shown → ((j : ℕ) → j ≢ i → slice_get shown' j ≡ slice_get shown j)
    → ChangesAt i (own_list nodes live shown) (own_list nodes live' shown') R
own_stepped nodes live live' shown shown' i o few count c same others = record {
  was = c.was;
  is = c.is;
  at_old = own_stored nodes live shown i o count c.was c.at_old;
  at_new = own_stored nodes live' shown' i o (same ∙ count) c.is c.at_new;
  others = λ j d. own_same nodes live shown live' shown' j (c.others j d) (others j d);
  count = own_count nodes live' shown' (subst (λ k. length nodes ≤ k) (sym c.count) few) (same ∙ count) ∙ sym (own_count nodes live shown few count);
  by = c.by;
}

-- the nodes beside an operator go on from what they did, or from what they show
pub own_beside : (nodes : List Node) (live left old new : List Sets) (i : ℕ) → ((j : ℕ) → j ≢ i → slice_get left j ≡ slice_get live j)
    → ((j : ℕ) (x : Sets) → slice_get new j ≡ Some x → (w : Sets) × (slice_get old j ≡ Some w))
    → StayBeside nodes i (own_list nodes live old) (own_list nodes left new) old new
own_beside nodes live left old new i same there j v d e =
    let (n, s, x, a, b, c, f) = own_is nodes left new j v e in
    let w = there j x c in
    by_node n s x w.0 a (sym (same j d) ∙ b) c w.1 f
  where
    by_node : (n : Node) (s x w : Sets) → slice_get nodes j ≡ Some n → slice_get live j ≡ Some s → slice_get new j ≡ Some x → slice_get old j ≡ Some w
        → v ≡ own_sets n s x → (slice_get (own_list nodes live old) j ≡ Some v)
        ⊎ ((a : Atom) × (slice_get nodes j ≡ Some (Leaf a)) × (slice_get new j ≡ Some v)
        × ((w : Sets) → slice_get old j ≡ Some w → slice_get (own_list nodes live old) j ≡ Some w))
    by_node (Leaf a) s x w at b c f g = inr (a, at, c ∙ ap Some (sym g), λ y h. own_here nodes live old j (Leaf a) s y at b h)
    by_node _ s x w at b c f g = inl (own_here nodes live old j _ s w at b f ∙ ap Some (sym g))

-- at first each node looks at what its children show, an atom at nothing
pub own_live : (nodes : List Node) (from : Rational) (live shown : List Sets) → AreLive nodes from live shown
    → AreLive nodes from (own_list nodes live shown) shown
own_live nodes from live shown h = record {
  count = let a = h.count in own_count nodes live shown (omega (arith, a)) h.shown_count;
  shown_count = h.shown_count;
  has = λ i n r x at ir ix.
      let (m, s, y, a, b, c, d) = own_is nodes live shown i r ir in
      subst (λ z. IsLive from shown n z x)
      (ap (λ k. own_sets k s x) (same_Some n m (sym at ∙ a)) ∙ ap (λ k. own_sets m s k) (same_Some x y (sym ix ∙ c)) ∙ sym d)
      (by_node n s x (h.has i n s x at b ix));
}
  where
    by_node : (n : Node) (s x : Sets) → IsLive from shown n s x → IsLive from shown n (own_sets n s x) x
    by_node (Leaf a) s x k = live_leaf a x k.shown_yes k.shown_starts (record { yes = k.yes_within; no = k.no_within })
    by_node _ s x k = k

-- where the node at a place is an operator
module _ {nodes : List Node} {tr : Trace} (live : List Sets) {shown : List Sets} (i : ℕ) (o : IsOperatorAt nodes i) (st : NetIs nodes tr live shown) where
  -- there are as many stored sets as nodes, at least
  pub few_of : length nodes ≤ length live
  few_of = let a = st.have.count in let b = own_few nodes live shown in omega (arith, a, b)

  -- an operator goes on from what is stored of it
  pub own_of_node : (s : Sets) → slice_get live i ≡ Some s → slice_get (own_list nodes live shown) i ≡ Some s
  own_of_node = own_stored nodes live shown i o st.have.shown_count

  -- which are tidy
  pub tidy_of : (s : Sets) → slice_get live i ≡ Some s → AreSetsTidy s
  tidy_of s is = st.tidy i s (own_of_node s is)

  -- and lie within their bounds
  pub inside_of : (s : Sets) → slice_get live i ≡ Some s → IsInside s
  inside_of s is = live_inside st i s (own_of_node s is)

  -- where its own change, and its children show fewer times
  pub beside_of : (left : List Sets) {new : List Sets} {s r : Sets} → ((j : ℕ) → j ≢ i → slice_get left j ≡ slice_get live j) → length left ≡ length live
      → AreLess shown new → slice_get live i ≡ Some s → slice_get left i ≡ Some r
      → Beside nodes i (own_list nodes live shown) (own_list nodes left new) shown new s r
  beside_of left {new} {s} {r} same as_many less is ir =
      let d = st.have.shown_count in
      let f = few_of in
      record {
        is = own_of_node s is;
        ir = own_stored nodes left new i o (less.count ∙ d) r ir;
        same = own_beside nodes live left shown new i same (λ j x e. let w = less.each j x e in (w.0, w.1));
        count = own_count nodes left new (omega (arith, f, as_many)) (less.count ∙ d) ∙ sym (own_count nodes live shown f d);
      }

  -- all stands where an operator goes on from fewer times
  pub shed_net : {mid : List Sets} → HasShedAt i shown live mid → NetIs nodes tr mid shown
  shed_net {mid} c = shed_stands (own_stepped nodes live mid shown shown i o few_of st.have.shown_count c refl (λ j d. refl)) st
