-- Signals that are given up: the children of the node that comes next are still kept, and so is the root in the end.
use Rattle.std.proofs.Common.{◌≡◌, ℕ, zero, suc, ◌+◌, ◌-◌, ◌<◌, ◌≤◌, ◌⊎◌, inl, inr, Bool, true, false, ◌||◌, cond}
use Rattle.std.proofs.Common.{Some, List, [], ◌∷◌, ◌++◌, length, take, ap, sym, ◌∙◌, subst, refl, arith}
use Rattle.std.specs.Prelude.{slice_get, MatchBool, All, ◌==◌, Option, None, IfSome, option_to_list}
use Rattle.std.specs.List.{list_any}
use Rattle.std.proofs.Math.ListN.{set}
use Rattle.std.proofs.lemmas.Bool.{ne_eqb, eq-eqb}
use Rattle.std.proofs.lemmas.List.{length-take, take_more, length-set}
use Rattle.std.proofs.lemmas.List.Elements.{All-head, All-tail}
use Rattle.std.proofs.lemmas.List.Folds.{list_any-append}
use Rattle.std.proofs.lemmas.Option.{slice_get_within, get_or_from_slice_get}
use Rattle.rational.proofs.Lists.{slice_get-push_cases, slice_get-append_here, slice_get-append_left}
use Rattle.stl_syntax.specs.Formula.{Subformula, subformula, tree_of, constant, negation, conjunction, disjunction}
use Rattle.stl_syntax.specs.Formula.{implication, until, eventually, always, since, once, historically}
use Rattle.stl_syntax.specs.PostOrder.{children, has_child, is_used, IsPostOrder}
use Rattle.stl_syntax.specs.SupInf.{Setting}
use Rattle.stl_syntax.specs.declared.node.Node.{Node}
use Rattle.stl_syntax.specs.declared.node.Node.TheVariants.{Const, Atom as Leaf, Not, And, Or, Implies, Until, Eventually, Always, Since, Once, Historically}
use Rattle.stl_syntax.proofs.PostOrderLemmas.{children_free, next_unused, post_order_take}
use Rattle.offline_eval.specs.Forms.{Form}
use Rattle.offline_eval.specs.Inputs.{IsOver}
use Rattle.offline_eval.specs.Keeping.{kept, IsSpare, AreGivenUp, IsRootIn, IsStack, TellsStack}
use Rattle.offline_eval.specs.Making.{IsSound, AreSound, TellAt, TellsValue}
use Rattle.offline_eval.specs.Places.{AgreeAt, reach_before}
use Rattle.offline_eval.proofs.NextNode.{pushed_count, told_pushed, all_told, all_pushed}
use Rattle.offline_eval.proofs.Sound.{sound_more}

-- a place in a list in which one item was replaced
written_at : {X : Type 0} (xs : List X) (p : ℕ) (y : X) (k : ℕ) (x : X) → slice_get (set xs p y) k ≡ Some x
    → ((k ≡ p) × (x ≡ y)) ⊎ ((p ≡ k → ⊥) × (slice_get xs k ≡ Some x))
written_at [] p y k x e = absurd cc
written_at (z ∷ xs) zero y zero x e = inl (refl, let same : y ≡ x = cc in sym same)
written_at (z ∷ xs) zero y (suc k) x e = inr (λ h. omega (arith, h), e)
written_at (z ∷ xs) (suc p) y zero x e = inr (λ h. omega (arith, h), e)
written_at (z ∷ xs) (suc p) y (suc k) x e = by_rest (written_at xs p y k x e)
  where
    by_rest : ((k ≡ p) × (x ≡ y)) ⊎ ((p ≡ k → ⊥) × (slice_get xs k ≡ Some x)) → ((suc k ≡ suc p) × (x ≡ y)) ⊎ ((suc p ≡ suc k → ⊥) × (slice_get xs k ≡ Some x))
    by_rest (inl h) = inl (ap suc h.0, h.1)
    by_rest (inr h) = inr (λ e. h.0 (omega (arith, e)), h.1)

-- a test at a, or at b and then at a
join : (S M O : Type 0) (a b : Bool) → MatchBool b S M → (M → MatchBool a S O) → MatchBool (a || b) S O
join S M O true true m f = m
join S M O true false m f = f m
join S M O false true m f = m
join S M O false false m f = f m

-- the places of the children lie inside a longer list too
pub left_inside : (l r : Option ℕ) (ps : List ℕ) (n m : ℕ) → option_to_list l ++ option_to_list r ≡ ps → All (λ p. p < n) ps → n ≤ m
    → IfSome l (λ p. p < m)
left_inside None r ps n m e all h = tt
left_inside (Some p) r ps n m e all h =
    let inside : p < n = All-head (λ p. p < n) p (option_to_list r) (subst (All (λ p. p < n)) (sym e) all) in omega (arith, inside, h)

-- so does that of the second child
pub right_inside : (l r : Option ℕ) (ps : List ℕ) (n m : ℕ) → option_to_list l ++ option_to_list r ≡ ps → All (λ p. p < n) ps → n ≤ m
    → IfSome r (λ p. p < m)
right_inside l None ps n m e all h = tt
right_inside None (Some q) ps n m e all h =
    let inside : q < n = All-head (λ p. p < n) q [] (subst (All (λ p. p < n)) (sym e) all) in omega (arith, inside, h)
right_inside (Some p) (Some q) ps n m e all h =
    let inside : q < n = All-head (λ p. p < n) q [] (All-tail (λ p. p < n) p (q ∷ []) (subst (All (λ p. p < n)) (sym e) all)) in
    omega (arith, inside, h)

used_too : (b : Bool) → (b || (true || false)) ≡ true
used_too true = refl
used_too false = refl

used_before : (b : Bool) → (b || (false || false)) ≡ b
used_before true = refl
used_before false = refl

module _ (nodes : List Node) where
  -- a place that no node has as a child keeps its formula
  kept_free : (i k : ℕ) → is_used (take i nodes) k ≡ false → kept nodes i k ≡ subformula nodes k
  kept_free i k e = ap (λ b. cond b (constant false) (subformula nodes k)) e

  -- the children of the node that comes next are kept
  pub kept_agrees : (i : ℕ) → IsPostOrder nodes → AgreeAt nodes i (kept nodes i)
  kept_agrees i order n e = by_kind n (children_free (take i nodes) n (order.follows i n e))
    where
      one : (p : ℕ) → All (λ k. is_used (take i nodes) k ≡ false) (p ∷ []) → kept nodes i p ≡ subformula nodes p
      one p h = kept_free i p (All-head (λ k. is_used (take i nodes) k ≡ false) p [] h)

      two : (make : Subformula → Subformula → Subformula) (p q : ℕ) → All (λ k. is_used (take i nodes) k ≡ false) (p ∷ q ∷ [])
          → make (kept nodes i p) (kept nodes i q) ≡ make (subformula nodes p) (subformula nodes q)
      two make p q h =
          let P : ℕ → Type 0 = λ k. is_used (take i nodes) k ≡ false in
          ap (λ f. make f (kept nodes i q)) (kept_free i p (All-head P p (q ∷ []) h))
          ∙ ap (λ f. make (subformula nodes p) f) (kept_free i q (All-head P q [] (All-tail P p (q ∷ []) h)))

      by_kind : (m : Node) → All (λ k. is_used (take i nodes) k ≡ false) (children m) → tree_of (kept nodes i) i m ≡ tree_of (subformula nodes) i m
      by_kind (Const b) h = refl
      by_kind (Leaf a) h = refl
      by_kind (Not p) h = ap negation (one p h)
      by_kind (And p q) h = two conjunction p q h
      by_kind (Or p q) h = two disjunction p q h
      by_kind (Implies p q) h = two implication p q h
      by_kind (Until p q a b) h = two (until a b) p q h
      by_kind (Eventually p a b a_in b_in) h = ap (eventually a b a_in b_in) (one p h)
      by_kind (Always p a b a_in b_in) h = ap (always a b a_in b_in) (one p h)
      by_kind (Since p q a b) h = two (since a b) p q h
      by_kind (Once p a b a_in b_in) h = ap (once a b a_in b_in) (one p h)
      by_kind (Historically p a b a_in b_in) h = ap (historically a b a_in b_in) (one p h)

  module _ (i : ℕ) (n : Node) (there : slice_get nodes i ≡ Some n) where
    taken : take (i + 1) nodes ≡ take i nodes ++ n ∷ []
    taken = take_more nodes i n (slice_get_within nodes i n there) ∙ ap (λ m. take i nodes ++ m ∷ []) (get_or_from_slice_get nodes i n n there)

    -- who is used once the node is there
    used_next : (k : ℕ) → is_used (take (i + 1) nodes) k ≡ (is_used (take i nodes) k || (has_child k n || false))
    used_next k = ap (λ l. is_used l k) taken ∙ list_any-append (has_child k) (take i nodes) (n ∷ [])

    kept_child : (k : ℕ) → has_child k n ≡ true → kept nodes (i + 1) k ≡ constant false
    kept_child k e =
        ap (λ b. cond b (constant false) (subformula nodes k))
        (used_next k ∙ ap (λ b. is_used (take i nodes) k || (b || false)) e ∙ used_too (is_used (take i nodes) k))

    kept_other : (k : ℕ) → has_child k n ≡ false → kept nodes (i + 1) k ≡ kept nodes i k
    kept_other k e =
        ap (λ b. cond b (constant false) (subformula nodes k))
        (used_next k ∙ ap (λ b. is_used (take i nodes) k || (b || false)) e ∙ used_before (is_used (take i nodes) k))

    kept_new : IsPostOrder nodes → kept nodes (i + 1) i ≡ subformula nodes i
    kept_new order =
        let long : length (take i nodes) ≡ i = omega (arith, length-take i nodes, slice_get_within nodes i n there) in
        kept_free (i + 1) i
        (ap (λ l. is_used l i) taken ∙ subst (λ k. is_used (take i nodes ++ n ∷ []) k ≡ false) long
        (next_unused (take i nodes) n (post_order_take nodes i order) (order.follows i n there)))

  -- a node is no child of itself
  pub no_own_child : (i : ℕ) (n : Node) → slice_get nodes i ≡ Some n → IsPostOrder nodes → has_child i n ≡ false
  no_own_child i n there order =
      let long : length (take i nodes) ≡ i = omega (arith, length-take i nodes, slice_get_within nodes i n there) in
      let free = subst (λ k. is_used (take i nodes ++ n ∷ []) k ≡ false) long
      (next_unused (take i nodes) n (post_order_take nodes i order) (order.follows i n there)) in
      second (is_used (take i nodes) i) (has_child i n) (sym (list_any-append (has_child i) (take i nodes) (n ∷ [])) ∙ free)
    where
      second : (a b : Bool) → (a || (b || false)) ≡ false → b ≡ false
      second true true e = e
      second true false e = refl
      second false true e = e
      second false false e = refl

module _ {X P : Type 0} (form : Form X P) (from to : ℕ) where
  -- nothing is given up
  pub none_given_up : (xs : List X) → AreGivenUp form from to [] xs xs
  none_given_up xs = record { count = refl; at = λ k x h. h }

  -- one signal is given up for a spare one
  pub one_given_up : (p : ℕ) (old new : List X) (spare : X) → new ≡ set old p spare → IsSpare form from to spare
      → AreGivenUp form from to (p ∷ []) old new
  one_given_up p old new spare e h = record {
    count = ap length e ∙ length-set old p spare;
    at = λ k x there. by_place k x (written_at old p spare k x (subst (λ l. slice_get l k ≡ Some x) e there));
  }
    where
      by_place : (k : ℕ) (x : X) → ((k ≡ p) × (x ≡ spare)) ⊎ ((p ≡ k → ⊥) × (slice_get old k ≡ Some x))
          → MatchBool (list_any (λ q. q == k) (p ∷ [])) (IsSpare form from to x) (slice_get old k ≡ Some x)
      by_place k x (inl o) =
          subst (λ b. MatchBool (b || false) (IsSpare form from to x) (slice_get old k ≡ Some x)) (sym (eq-eqb p k (sym o.0)))
          (subst (IsSpare form from to) (sym o.1) h)
      by_place k x (inr o) = subst (λ b. MatchBool (b || false) (IsSpare form from to x) (slice_get old k ≡ Some x)) (sym (ne_eqb p k o.0)) o.1

  -- what is given up in two steps is given up in both
  pub more_given_up : (ps qs : List ℕ) (old mid new : List X) → AreGivenUp form from to ps old mid
      → AreGivenUp form from to qs mid new → AreGivenUp form from to (ps ++ qs) old new
  more_given_up ps qs old mid new f s = record {
    count = s.count ∙ f.count;
    at = λ k x there.
        subst (λ b. MatchBool b (IsSpare form from to x) (slice_get old k ≡ Some x)) (sym (list_any-append (λ p. p == k) ps qs))
        (join (IsSpare form from to x) (slice_get mid k ≡ Some x) (slice_get old k ≡ Some x) (list_any (λ p. p == k) ps) (list_any (λ p. p == k) qs)
        (s.at k x there) (λ m. f.at k x m));
  }

  -- what was given up before one signal more came, and is given up once it is there, is given up
  given_before : (ps : List ℕ) (old mid new : List X) (y : X) → AreGivenUp form from to ps old mid
      → AreGivenUp form from to ps (mid ++ y ∷ []) new → AreGivenUp form from to ps (old ++ y ∷ []) new
  given_before ps old mid new y f s = record {
    count = s.count ∙ pushed_count mid (mid ++ y ∷ []) y (length old) f.count refl ∙ sym (pushed_count old (old ++ y ∷ []) y (length old) refl refl);
    at = λ k x there. by_place k x (list_any (λ p. p == k) ps) refl (s.at k x there);
  }
    where
      Was : Bool → ℕ → X → Type 0
      Was b k x = MatchBool b (IsSpare form from to x) (slice_get (old ++ y ∷ []) k ≡ Some x)

      stays : (k : ℕ) (x : X) → MatchBool false (IsSpare form from to x) (slice_get old k ≡ Some x) → Was false k x
      stays k x h = slice_get-append_left old (y ∷ []) k x h

      kept : (k : ℕ) (x : X) → list_any (λ p. p == k) ps ≡ false → (slice_get mid k ≡ Some x) ⊎ ((k ≡ length mid) × (x ≡ y)) → Was false k x
      kept k x e (inl h) = stays k x (subst (λ b. MatchBool b (IsSpare form from to x) (slice_get old k ≡ Some x)) e (f.at k x h))
      kept k x e (inr (here, is)) =
          subst (λ z. slice_get (old ++ y ∷ []) k ≡ Some z) (sym is)
          (subst (λ j. slice_get (old ++ y ∷ []) j ≡ Some y) (sym (here ∙ f.count)) (slice_get-append_here old y []))

      by_place : (k : ℕ) (x : X) (b : Bool) → list_any (λ p. p == k) ps ≡ b
          → MatchBool b (IsSpare form from to x) (slice_get (mid ++ y ∷ []) k ≡ Some x) → Was b k x
      by_place k x true e spare = spare
      by_place k x false e h = kept k x e (slice_get-push_cases mid y k x h)

  -- the same where nothing was given up before, or all of it
  pub given_in_all : (ps : List ℕ) (old mid new : List X) (y : X) → (mid ≡ old) ⊎ AreGivenUp form from to ps old mid
      → AreGivenUp form from to ps (mid ++ y ∷ []) new → AreGivenUp form from to ps (old ++ y ∷ []) new
  given_in_all ps old mid new y (inl e) s = subst (λ l. AreGivenUp form from to ps (l ++ y ∷ []) new) e s
  given_in_all ps old mid new y (inr f) s = given_before ps old mid new y f s

  -- there are as many signals as before
  pub as_many : (ps : List ℕ) (old mid : List X) → (mid ≡ old) ⊎ AreGivenUp form from to ps old mid → length mid ≡ length old
  as_many ps old mid (inl e) = ap length e
  as_many ps old mid (inr f) = f.count

  -- the next node, n at the place i, adds its signal y to the old ones, and those of its children are given up
  pub record AddsNext (nodes : List Node) (s : Setting) (i : ℕ) (n : Node) (old new : List X) (y : X) : Type 0 where
    -- children come before their nodes
    pub order : IsPostOrder nodes
    -- n is the next node
    pub there : slice_get nodes i ≡ Some n
    -- each node before it has a signal
    pub count : length old ≡ i
    -- the setting is over the stretch
    pub over : IsOver form.shape.lowest form.shape.highest from to s
    -- the signals of its children are given up
    pub given : AreGivenUp form from to (children n) (old ++ y ∷ []) new
    -- its signal tells it
    pub own : TellsValue form s (subformula nodes i) y

  -- what the signals tell once the next node has its own
  pub kept_told : (nodes : List Node) (s : Setting) (i : ℕ) (n : Node) (old new : List X) (y : X)
      → AddsNext nodes s i n old new y → TellAt form s (kept nodes i) old → TellAt form s (kept nodes (i + 1)) new
  kept_told nodes s i n old new y next told k x at = by_child (has_child k n) refl (next.given.at k x at)
    where
      by_place : has_child k n ≡ false → (slice_get old k ≡ Some x) ⊎ ((k ≡ length old) × (x ≡ y)) → TellsValue form s (kept nodes (i + 1) k) x
      by_place e (inl h) = subst (λ f. TellsValue form s f x) (sym (kept_other nodes i n next.there k e)) (told k x h)
      by_place e (inr h) =
          let here : i ≡ k = sym (h.0 ∙ next.count) in
          subst (λ j. TellsValue form s (kept nodes (i + 1) j) x) here
          (subst (λ f. TellsValue form s f x) (sym (kept_new nodes i n next.there next.order))
          (subst (TellsValue form s (subformula nodes i)) (sym h.1) next.own))

      by_child : (b : Bool) → has_child k n ≡ b → MatchBool b (IsSpare form from to x) (slice_get (old ++ y ∷ []) k ≡ Some x)
          → TellsValue form s (kept nodes (i + 1) k) x
      by_child true e spare = subst (λ f. TellsValue form s f x) (sym (kept_child nodes i n next.there k e)) (spare.told s next.over)
      by_child false e h = by_place e (slice_get-push_cases old y k x h)

  -- the signals stay sound
  pub kept_sound : (places : List ℕ) (reach : ℕ) (old new : List X) → AreGivenUp form from to places old new
      → AreSound form from to reach old → AreSound form from to reach new
  kept_sound places reach old new given sound k x at = by_place (list_any (λ p. p == k) places) (given.at k x at)
    where
      by_place : (b : Bool) → MatchBool b (IsSpare form from to x) (slice_get old k ≡ Some x) → IsSound form from to reach x
      by_place true spare = sound_more form from to 0 reach x (omega arith) spare.sound
      by_place false h = sound k x h

module _ {X P : Type 0} (form : Form X P) (nodes : List Node) (s : Setting) where
  -- a stack of no signals tells the first no nodes
  pub stack_none : (done : List X) → done ≡ [] → TellsStack form nodes s 0 done
  stack_none done e = record {
    told = λ k x at. absurd (none k x (subst (λ l. slice_get l k ≡ Some x) e at));
    signals = [];
    count = refl;
    all = λ k x at. absurd (none k x at);
    last = λ k x e at. absurd (omega (arith, e));
  }
    where
      none : (k : ℕ) (x : X) → slice_get [] k ≡ Some x → ⊥
      none k x e = cc

  -- with the signal of the next node, and its children given up
  pub stack_next : (from to i : ℕ) (n : Node) (old new : List X) (y : X) → AddsNext form from to nodes s i n old new y
      → TellsStack form nodes s i old → TellsStack form nodes s (i + 1) new
  stack_next from to i n old new y next st = record {
    told = kept_told form from to nodes s i n old new y next st.told;
    signals = st.signals ++ y ∷ [];
    count = pushed_count st.signals (st.signals ++ y ∷ []) y i st.count refl;
    all = told_pushed form nodes s i st.signals y st.count refl st.all next.own;
    last = λ k x e at. here k x (omega (arith, e)) (next.given.at k x at);
  }
    where
      by_place : (k : ℕ) (x : X) → k ≡ i → (slice_get old k ≡ Some x) ⊎ ((k ≡ length old) × (x ≡ y))
          → slice_get (st.signals ++ y ∷ []) k ≡ Some x
      by_place k x e (inl h) = absurd (let l = slice_get_within old k x h in let count = next.count in omega (arith, e, l, count))
      by_place k x e (inr h) =
          let long : length st.signals ≡ k = st.count ∙ sym e in
          subst (λ j. slice_get (st.signals ++ y ∷ []) j ≡ Some x) long
          (subst (λ z. slice_get (st.signals ++ y ∷ []) (length st.signals) ≡ Some z) (sym h.1) (slice_get-append_here st.signals y []))

      here : (k : ℕ) (x : X) → k ≡ i → MatchBool (has_child k n) (IsSpare form from to x) (slice_get (old ++ y ∷ []) k ≡ Some x)
          → slice_get (st.signals ++ y ∷ []) k ≡ Some x
      here k x e m =
          let free : has_child k n ≡ false = subst (λ j. has_child j n ≡ false) (sym e) (no_own_child nodes i n next.there next.order) in
          by_place k x e (slice_get-push_cases old y k x (subst (λ b. MatchBool b (IsSpare form from to x) (slice_get (old ++ y ∷ []) k ≡ Some x)) free m))

  -- what is left in the end is the last of them
  pub stack_root : (done rest : List X) (x : X) → 0 < length nodes → length done ≡ length nodes
      → done ≡ rest ++ x ∷ [] → TellsStack form nodes s (length nodes) done → IsRootIn form nodes s x
  stack_root done rest x some count e st = (
    st.signals,
    st.count,
    st.last (length nodes - 1) x (omega (arith, some)) at,
    all_told form nodes s st.signals st.count st.all,
  )
    where
      length_pushed : (xs : List X) (x : X) → length (xs ++ x ∷ []) ≡ suc (length xs)
      length_pushed [] x = refl
      length_pushed (z ∷ xs) x = ap suc (length_pushed xs x)

      long : length nodes - 1 ≡ length rest
      long = omega (arith, count, ap length e ∙ length_pushed rest x)

      at : slice_get done (length nodes - 1) ≡ Some x
      at = ap (λ l. slice_get l (length nodes - 1)) e ∙ ap (slice_get (rest ++ x ∷ [])) long ∙ slice_get-append_here rest x []

module _ {X P : Type 0} (form : Form X P) (from to : ℕ) (nodes : List Node) where
  -- no signals are a stack before the first node
  pub stack_empty : (done : List X) → done ≡ [] → IsStack form from to nodes 0 done
  stack_empty done e = record { count = ap length e; sound = λ k x at. absurd (none k x (subst (λ l. slice_get l k ≡ Some x) e at)) }
    where
      none : (k : ℕ) (x : X) → slice_get [] k ≡ Some x → ⊥
      none k x e = cc

  -- the stack stays sound with the signal of one more node
  pub stack_on : (i : ℕ) (places : List ℕ) (old new : List X) (y : X) → i < length nodes
      → AreGivenUp form from to places (old ++ y ∷ []) new → IsSound form from to (reach_before nodes (i + 1)) y
      → IsStack form from to nodes i old → IsStack form from to nodes (i + 1) new
  stack_on i places old new y inside given own st = record {
    count = given.count ∙ pushed_count old (old ++ y ∷ []) y i st.count refl;
    sound = kept_sound form from to places (reach_before nodes (i + 1)) (old ++ y ∷ []) new given
        (all_pushed form from to nodes i old (old ++ y ∷ []) y inside refl st.sound own);
  }
