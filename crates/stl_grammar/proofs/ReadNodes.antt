-- The nodes of a text that is not refused: their bounds are in order, and their atoms have few terms.
use Rattle.std.proofs.Common.{◌≡◌, ℕ, suc, ◌+◌, ◌-◌, ◌*◌, ◌^◌, ◌<◌, ◌≤◌, List, [], ◌∷◌, ◌++◌, length}
use Rattle.std.proofs.Common.{refl, ap, sym, ◌∙◌, subst, Bool, true, false, arith, append_assoc, lit<, max}
use Rattle.std.specs.Prelude.{codes, reverse, nat_lt, Option, Some, None, All, ◌==◌}
use Rattle.std.proofs.lemmas.List.{append-nil, length_push, reverse-append, reverse-reverse}
use Rattle.std.proofs.Math.Nat.{mul-le-mul_right, le_of_mul-le-mul_right, mul-pos, one-le-pow}
use Rattle.std.proofs.lemmas.Nat.{pow-add}
use Rattle.std.proofs.lemmas.Bool.Decides.{nat_tests}
use Rattle.std.proofs.lemmas.List.Elements.{All-append, All-cons, All-nil, All-weaker}
use Rattle.stl_syntax.specs.Characters.{ticks}
use Rattle.stl_syntax.specs.PostOrder.{children, IsTreeFrom, leaf, one, two}
use Rattle.stl_syntax.specs.WellFormed.{IsInOrder, IsInWhereInfinite, HasBounds}
use Rattle.stl_syntax.specs.declared.scale.Scale.{Scale}
use Rattle.stl_syntax.specs.declared.atom.Atom.{Atom}
use Rattle.stl_syntax.specs.declared.atom.Term.{Term}
use Rattle.stl_syntax.specs.declared.node.Node.{Node}
use Rattle.stl_syntax.specs.declared.node.Node.TheVariants.{Const, Atom as Leaf}
use Rattle.stl_syntax.proofs.TreeOrder.{tree_order, tree_root}
use Rattle.stl_grammar.specs.Grammar.{Token, word, number, relation, open_paren, close_paren, comma, Lexes, time_digits}
use Rattle.stl_grammar.specs.Grammar.{AreTerms, more_plus, more_minus, IsAtom, first, signed, IsFormula}
use Rattle.stl_grammar.specs.Grammar.{none as no_terms}
use Rattle.stl_grammar.specs.FormulaRefusals.{TokenFault, nodes_made}
use Rattle.stl_grammar.specs.Building.{HasFewTerms, AreNodes}
use Rattle.stl_grammar.specs.Operators.{is_beside, left_binds}
use Rattle.stl_grammar.specs.Machine.{kind, at_operand, at_bound, at_term, at_sign, at_end, Frame, paren, negation, State, start, top_rank, timed_frame}
use Rattle.stl_grammar.specs.Machine.{connective_frame, step_from, run, fifth_at}
use Rattle.stl_grammar.specs.declared.fault.FormulaFault.{FormulaFault}
use Rattle.stl_grammar.specs.declared.operator.Timed.{Timed}
use Rattle.stl_grammar.specs.declared.operator.Timed.TheVariants.{Until as TUntil, Since as TSince, Eventually as TEventually, Always as TAlways}
use Rattle.stl_grammar.proofs.Derivations.{Connective, by_and, connective_word, connective_node, left_binds, timed_word, timed_node, Bounded}
use Rattle.stl_grammar.proofs.Derivations.{left_out, within, endless, has_upper, Operand, negated, prefixed, constant, enclosed, compared}
use Rattle.stl_grammar.proofs.Derivations.{Derived, joined, beside, alone, formula_derived, operand_begins}
use Rattle.stl_grammar.proofs.MachineRuns.{go, at, st, timed_st, run_go, term_of, term_runs, first_runs, skips, opens_step, closes_step, ends_step, inf_step}
use Rattle.stl_grammar.proofs.MachineRuns.{connective_steps, beside_steps, before_steps, count_is, operand_state, has_room}
use Rattle.stl_grammar.proofs.MachineRuns.{derived_runs, operand_runs, formula_runs}
use Rattle.stl_grammar.proofs.MachineView.{run_fifth, run_nodes}
use Rattle.stl_grammar.proofs.TokensTaken.{AreFree, tokens_free}

-- the nodes of tokens are one tree
connective_children : (o : Connective) (p q : ℕ) → children (connective_node o p q) ≡ p ∷ q ∷ []
connective_children by_and p q = refl
connective_children _ p q = refl

beside_children : (of : Timed) → is_beside of ≡ true → (a : ℕ) (b : Option ℕ) (x y : Bool) (p q : ℕ) → children (timed_node of a b x y p q) ≡ p ∷ q ∷ []
beside_children TUntil e a b x y p q = refl
beside_children TSince e a b x y p q = refl
beside_children _ e a b x y p q = absurd (cc)

before_children : (of : Timed) → is_beside of ≡ false → (a : ℕ) (b : Option ℕ) (x y : Bool) (p q : ℕ) → children (timed_node of a b x y p q) ≡ q ∷ []
before_children TUntil e a b x y p q = absurd (cc)
before_children TSince e a b x y p q = absurd (cc)
before_children _ e a b x y p q = refl

mutual
  derived_tree : {s : Scale} {r k : ℕ} {ts : List Token} {ns : List Node} → Derived s r k ts ns → IsTreeFrom k ns
  derived_tree (joined o l d e) = two _ (derived_tree d) (derived_tree e) (connective_children o _ _)
  derived_tree (beside of e l p w q) = two _ (operand_tree p) (operand_tree q) (beside_children of e _ _ _ _ _ _)
  derived_tree (alone p) = operand_tree p

  operand_tree : {s : Scale} {k : ℕ} {ts : List Token} {ns : List Node} → Operand s k ts ns → IsTreeFrom k ns
  operand_tree (negated p) = one _ (operand_tree p) refl
  operand_tree (prefixed of e w p) = one _ (operand_tree p) (before_children of e _ _ _ _ _ _)
  operand_tree (constant b) = leaf (Const b) refl
  operand_tree (enclosed d) = derived_tree d
  operand_tree (compared {a = a} x) = leaf (Leaf a) refl

-- the token begins no fifth term
abbrev FineAt : Option State → Token → Type 0
FineAt None t = Unit {0}
FineAt (Some q) t = fifth_at q.place (length q.terms) t ≡ false

-- nor do those after it
abbrev Fine : Scale → Option State → List Token → Type 0
Fine s o [] = Unit {0}
Fine s o (t ∷ ts) = FineAt o t × Fine s (step_from s o t) ts

fine_split : (s : Scale) (o : Option State) (ts us : List Token) → Fine s o (ts ++ us) → Fine s o ts × Fine s (go s o ts) us
fine_split s o [] us h = (tt, h)
fine_split s o (t ∷ ts) us h = let x = fine_split s (step_from s o t) ts us h.1 in ((h.0, x.0), x.1)

free_fine : (s : Scale) (before ts : List Token) → AreFree before ts → Fine s (run s before) ts
free_fine s before [] h = tt
free_fine s before (t ∷ ts) h = (split (run s before) refl, free_fine s (t ∷ before) ts h.1)
  where
    split : (o : Option State) → run s before ≡ o → FineAt (run s before) t
    split None e = rw e tt
    split (Some q) e = rw e (sym (run_fifth s before q e t) ∙ h.0.terms)

free_order : (before pre post : List Token) (a j b k : ℕ) → AreFree before (pre ++ number a j ∷ comma ∷ number b k ∷ post)
    → nat_lt (b * 10 ^ j) (a * 10 ^ k) ≡ false
free_order before [] post a j b k h = h.1.1.0.order
free_order before (t ∷ pre) post a j b k h = free_order (t ∷ before) pre post a j b k h.1

-- numbers about a comma have at most so many decimals, and are in order
abbrev Covers : ℕ → List Token → Type 0
Covers digits ts = (pre post : List Token) (a j b k : ℕ) → ts ≡ pre ++ number a j ∷ comma ∷ number b k ∷ post
    → (j ≤ digits) × (k ≤ digits) × (nat_lt (b * 10 ^ j) (a * 10 ^ k) ≡ false)

covers_left : (digits : ℕ) (ts us : List Token) → Covers digits (ts ++ us) → Covers digits ts
covers_left digits ts us h pre post a j b k e = h pre (post ++ us) a j b k (ap (λ z. z ++ us) e ∙ append_assoc pre (number a j ∷ comma ∷ number b k ∷ post) us)

covers_right : (digits : ℕ) (ts us : List Token) → Covers digits (ts ++ us) → Covers digits us
covers_right digits ts us h pre post a j b k e =
    h (ts ++ pre) post a j b k (ap (λ z. ts ++ z) e ∙ sym (append_assoc ts pre (number a j ∷ comma ∷ number b k ∷ post)))

covers_rest : (digits : ℕ) (t : Token) (ts : List Token) → Covers digits (t ∷ ts) → Covers digits ts
covers_rest digits t ts h = covers_right digits (t ∷ []) ts h

time_covers : (pre post : List Token) (a j b k : ℕ) → (j ≤ time_digits (pre ++ number a j ∷ comma ∷ number b k ∷ post))
    × (k ≤ time_digits (pre ++ number a j ∷ comma ∷ number b k ∷ post))
time_covers [] post a j b k = (omega arith, omega arith)
time_covers (number n i ∷ pre) post a j b k = let x = time_covers pre post a j b k in (omega (arith, x.0), omega (arith, x.1))
time_covers (t ∷ pre) post a j b k = time_covers pre post a j b k

covers_all : (ts : List Token) (digits : ℕ) → time_digits ts ≤ digits → AreFree [] ts → Covers digits ts
covers_all ts digits l h pre post a j b k e =
    let x = time_covers pre post a j b k in let f : time_digits ts ≡ time_digits (pre ++ number a j ∷ comma ∷ number b k ∷ post) = ap time_digits e in
    (omega (arith, x.0, f), omega (arith, x.1, f), free_order [] pre post a j b k (rw e at h))

-- numbers in order are in order in ticks
pub power_parts : (d j : ℕ) → j ≤ d → 10 ^ (d - j) * 10 ^ j ≡ 10 ^ d
power_parts d j l = let e : d ≡ d - j + j = omega arith in sym (ap (λ z. 10 ^ z) e ∙ pow-add 10 (d - j) j)

-- two fractions in order over one product
pub cross : (a b p q j k e : ℕ) → p * j ≡ e → q * k ≡ e → 0 < j → 0 < k → a * k ≤ b * j → a * p ≤ b * q
cross a b p q j k e f g x y h =
    let l : a * k * e ≤ b * j * e = mul-le-mul_right e h in
    let m : a * p * (j * k) ≡ a * k * e = let z : a * p * (j * k) ≡ a * k * (p * j) = omega arith in z ∙ ap (λ w. a * k * w) f in
    let n : b * q * (j * k) ≡ b * j * e = let z : b * q * (j * k) ≡ b * j * (q * k) = omega arith in z ∙ ap (λ w. b * j * w) g in
    let r : a * p * (j * k) ≤ b * q * (j * k) = rw (m, n) l in
    le_of_mul-le-mul_right r (mul-pos x y)

ticks_order : (digits a j b k : ℕ) → j ≤ digits → k ≤ digits → nat_lt (b * 10 ^ j) (a * 10 ^ k) ≡ false → ticks digits a j ≤ ticks digits b k
ticks_order digits a j b k l m e =
    let f : a * 10 ^ k ≤ b * 10 ^ j = not_less (b * 10 ^ j) (a * 10 ^ k) e in
    let x : 0 < 10 ^ j = one-le-pow j 10 (lit< tt) in
    let y : 0 < 10 ^ k = one-le-pow k 10 (lit< tt) in
    cross a b (10 ^ (digits - j)) (10 ^ (digits - k)) (10 ^ j) (10 ^ k) (10 ^ digits) (power_parts digits j l) (power_parts digits k m) x y f
  where
    not_less : (n o : ℕ) → nat_lt n o ≡ false → o ≤ n
    not_less n o e = grind (arith, nat_tests, e)

-- a bound whose numbers are about a comma
bound_order : {digits a : ℕ} {o : Timed} {b : Option ℕ} {us : List Token} {x y : Bool} → Bounded digits o us a b x y → Covers digits us
    → IsInOrder a b × IsInWhereInfinite b y
bound_order (left_out e) c = (tt, refl)
bound_order {digits} (within {a = a} {j} {b} {k} {t} {u} p q) c =
    let d = c (t ∷ []) (u ∷ []) a j b k refl in (ticks_order digits a j b k d.0 d.1 d.2, tt)
bound_order (endless e p q) c = (tt, refl)

-- that of an operator's node
timed_bounds : (of : Timed) {d a : ℕ} {b : Option ℕ} {us : List Token} {x y : Bool} (p q : ℕ) → Bounded d of us a b x y
    → IsInOrder a b × IsInWhereInfinite b y → HasBounds (timed_node of a b x y p q)
timed_bounds TUntil {a = a} p q w h = subst (λ z. IsInOrder a z) (sym (has_upper TUntil refl w)) h.0
timed_bounds TSince p q w h = h.0
timed_bounds TEventually {a = a} p q w h = subst (λ z. IsInOrder a z) (sym (has_upper TEventually refl w)) h.0
timed_bounds TAlways {a = a} p q w h = subst (λ z. IsInOrder a z) (sym (has_upper TAlways refl w)) h.0
timed_bounds _ p q w h = h

-- the operand after a bound
bound_fine : (s : Scale) {of : Timed} {a : ℕ} {b : Option ℕ} {us : List Token} {x y : Bool} → Bounded s.time of us a b x y
    → {k : ℕ} {ts : List Token} {ns : List Node} → Operand s k ts ns → (frames : List Frame) (nodes : List Node) (made : ℕ)
    → Fine s (st (at_bound of) frames nodes made) (us ++ ts) → Fine s (timed_st of a b x y frames nodes made) ts
unfolding kind
bound_fine s {of} (left_out e) p frames nodes made f =
    let b = operand_begins p in let g = rw b.is at f in rw b.is (refl, rw (skips s of e frames nodes made b.head b.other) at g.1)
bound_fine s {of} (within {a = a} {j} {b} {k} {u = u} {x} p q) {ts = ts} r frames nodes made f =
    let g = subst (λ z. Fine s z (number a j ∷ comma ∷ number b k ∷ u ∷ ts)) (opens_step s of p frames nodes made) f.1 in
    subst (λ z. Fine s z ts) (closes_step s of x a j q b k frames nodes made) g.1.1.1.1
bound_fine s {of} (endless {a = a} {j} {u = u} {x} e p q) {ts = ts} r frames nodes made f =
    let g = subst (λ z. Fine s z (number a j ∷ comma ∷ word (codes "inf") ∷ u ∷ ts)) (opens_step s of p frames nodes made) f.1 in
    let i = subst (λ z. Fine s z (u ∷ ts)) (inf_step s of e x a j frames nodes made) g.1.1.1 in
    subst (λ z. Fine s z ts) (ends_step s of x a j q frames nodes made) i.1

below_four : (terms : List Term) (t : Term) → length terms ≤ 4 → (length terms == 4) ≡ false → length (terms ++ t ∷ []) ≤ 4
below_four terms t l e = omega (arith, length_push terms t, not_four (length terms) l e)
  where
    not_four : (n : ℕ) → n ≤ 4 → (n == 4) ≡ false → suc n ≤ 4
    not_four n l e = grind (arith, nat_tests, e)

-- further terms are at most four, up to the relation
terms_few : (s : Scale) {us : List Token} {more : List Term} → AreTerms us more → (terms : List Term) → length terms ≤ 4
    → (frames : List Frame) (nodes : List Node) (made : ℕ) → Fine s (at at_sign frames nodes terms made) us → length terms + length more ≤ 4
terms_few s no_terms terms l frames nodes made f = omega (arith, l)
terms_few s (more_plus {k = k} {w} {ts = ts} {us} t u) terms l frames nodes made f =
    let x = (fine_split s (at (at_term false) frames nodes terms made) ts us f.1).1 in
    let y = terms_few s u _ (below_four terms _ l f.0) frames nodes made (rw (term_runs s t false frames nodes terms made) at x) in
    omega (arith, y, length_push terms (term_of s false k w))
terms_few s (more_minus {k = k} {w} {ts = ts} {us} t u) terms l frames nodes made f =
    let x = (fine_split s (at (at_term true) frames nodes terms made) ts us f.1).1 in
    let y = terms_few s u _ (below_four terms _ l f.0) frames nodes made (rw (term_runs s t true frames nodes terms made) at x) in
    omega (arith, y, length_push terms (term_of s true k w))

atom_few : (s : Scale) {digits : ℕ} {ts : List Token} {a : Atom} → IsAtom digits ts a → (frames : List Frame) (nodes : List Node) (made : ℕ)
    → Fine s (st at_operand frames nodes made) ts → (0 < length a.terms) × (length a.terms ≤ 4)
atom_few s (first {ts = ts} {us} {vs} {rel = rel} t u c) frames nodes made f =
    let x = (fine_split s (st at_operand frames nodes made) (ts ++ us) (relation rel ∷ vs) f).0 in
    let y = (fine_split s (st at_operand frames nodes made) ts us x).1 in
    let z = terms_few s u _ (omega arith) frames nodes (suc made) (rw (first_runs s t frames nodes made) at y) in (omega arith, omega (arith, z))
atom_few s (signed {us = us} {vs} {terms = more} {rel = rel} u c) frames nodes made f =
    by_sign u (fine_split s (st at_operand frames nodes made) us (relation rel ∷ vs) f).0
  where
    by_sign : {us : List Token} {t : Term} → AreTerms us (t ∷ more) → Fine s (st at_operand frames nodes made) us
        → (0 < suc (length more)) × (suc (length more) ≤ 4)
    by_sign (more_plus {ts = ts} {us} t u) f =
        let x = (fine_split s (at (at_term false) frames nodes [] (suc made)) ts us f.1).1 in
        let z = terms_few s u _ (omega arith) frames nodes (suc made) (rw (term_runs s t false frames nodes [] (suc made)) at x) in
        (omega arith, omega (arith, z))
    by_sign (more_minus {ts = ts} {us} t u) f =
        let x = (fine_split s (at (at_term true) frames nodes [] (suc made)) ts us f.1).1 in
        let z = terms_few s u _ (omega arith) frames nodes (suc made) (rw (term_runs s t true frames nodes [] (suc made)) at x) in
        (omega arith, omega (arith, z))

-- a node with its bounds in order and few terms
abbrev IsGood : Node → Type 0
IsGood n = HasBounds n × HasFewTerms n

one_good : (ns : List Node) (n : Node) → All IsGood ns → IsGood n → All IsGood (ns ++ n ∷ [])
one_good ns n h g = All-append IsGood ns (n ∷ []) h (All-cons IsGood n [] g (All-nil IsGood))

two_good : (ns ms : List Node) (n : Node) → All IsGood ns → All IsGood ms → IsGood n → All IsGood (ns ++ ms ++ n ∷ [])
two_good ns ms n h k g = one_good (ns ++ ms) n (All-append IsGood ns ms h k) g

connective_good : (o : Connective) (p q : ℕ) → IsGood (connective_node o p q)
connective_good by_and p q = (tt, tt)
connective_good _ p q = (tt, tt)

timed_good : (of : Timed) {d a : ℕ} {b : Option ℕ} {us : List Token} {x y : Bool} (p q : ℕ) → Bounded d of us a b x y → Covers d us
    → IsGood (timed_node of a b x y p q)
timed_good of {a = a} {b} {x = x} {y} p q w c = (timed_bounds of p q w (bound_order w c), few of)
  where
    few : (of : Timed) → HasFewTerms (timed_node of a b x y p q)
    few TUntil = tt
    few _ = tt

mutual
  unfolding kind

  derived_good : {s : Scale} {r k : ℕ} {ts : List Token} {ns : List Node} → Derived s r k ts ns → r ≤ 5
      → (frames : List Frame) (nodes : List Node) (made : ℕ) → top_rank frames < max 2 r → length nodes ≡ k
      → Fine s (st at_operand frames nodes made) ts → Covers s.time ts → All IsGood ns
  derived_good {s} {r} {k} (joined o {ts = ts} {us} {ns} {ms} i d e) five frames nodes made l n f c =
      let w : Token = word (connective_word o) in
      let room = has_room o in
      let m : top_rank frames < left_binds o = omega (arith, l, i, room.left, room.two) in
      let x = fine_split s (st at_operand frames nodes made) ts (w ∷ us) f in
      let (q, g, h) = derived_runs s d room.few frames nodes made (omega (arith, m)) n in
      let y : Fine s (Some q) (w ∷ us) = rw g at x.1 in
      two_good ns ms _ (derived_good d room.few frames nodes made (omega (arith, m)) n x.0 (covers_left s.time ts (w ∷ us) c))
      (derived_good e room.last (connective_frame o (length (nodes ++ ns) - 1) ∷ frames) (nodes ++ ns) (suc (made + length ns)) room.right
      (count_is k nodes ns n) (rw (connective_steps s o q frames (nodes ++ ns) (made + length ns) m h) at y.1)
      (covers_rest s.time w us (covers_right s.time ts (w ∷ us) c))) (connective_good o _ _)
  derived_good {s} {r} {k} (beside of {a = a} {b} {x} {y} {ts} {us} {vs} {ns} {ms} i four p z q) five frames nodes made l n f c =
      let w : Token = word (timed_word of) in
      let m : top_rank frames < 4 = omega (arith, l, four) in
      let g = fine_split s (st at_operand frames nodes made) ts (w ∷ (us ++ vs)) f in
      let at_whole = operand_runs s p frames nodes made n ∙ operand_state s frames (nodes ++ ns) (made + length ns) (omega (arith, m)) in
      let h : Fine s (st at_end frames (nodes ++ ns) (made + length ns)) (w ∷ (us ++ vs)) = rw at_whole at g.1 in
      let j : Fine s (st (at_bound of) frames (nodes ++ ns) (suc (made + length ns))) (us ++ vs) =
      rw (beside_steps s of i frames (nodes ++ ns) (made + length ns) m) at h.1 in
      let d = covers_rest s.time w (us ++ vs) (covers_right s.time ts (w ∷ (us ++ vs)) c) in
      two_good ns ms _ (operand_good p frames nodes made n g.0 (covers_left s.time ts (w ∷ (us ++ vs)) c))
      (operand_good q (timed_frame of a b x y (length (nodes ++ ns) - 1) ∷ frames) (nodes ++ ns) (suc (made + length ns)) (count_is k nodes ns n)
      (bound_fine s z q frames (nodes ++ ns) (suc (made + length ns)) j) (covers_right s.time us vs d))
      (timed_good of _ _ z (covers_left s.time us vs d))
  derived_good (alone p) five frames nodes made l n f c = operand_good p frames nodes made n f c

  operand_good : {s : Scale} {k : ℕ} {ts : List Token} {ns : List Node} → Operand s k ts ns
      → (frames : List Frame) (nodes : List Node) (made : ℕ) → length nodes ≡ k → Fine s (st at_operand frames nodes made) ts
      → Covers s.time ts → All IsGood ns
  operand_good {s} (negated {ts = ts} {ns} p) frames nodes made n f c =
      one_good ns _ (operand_good p (negation ∷ frames) nodes (suc made) n f.1 (covers_rest s.time (word (codes "not")) ts c)) (tt, tt)
  operand_good {s} (prefixed of {a = a} {b} {x} {y} {ts} {us} {ns} i z p) frames nodes made n f c =
      let g : Fine s (st (at_bound of) frames nodes (suc made)) (us ++ ts) = rw (before_steps s of i frames nodes made) at f.1 in
      let d = covers_rest s.time (word (timed_word of)) (us ++ ts) c in
      one_good ns _ (operand_good p (timed_frame of a b x y (length nodes - 1) ∷ frames) nodes (suc made) n
      (bound_fine s z p frames nodes (suc made) g) (covers_right s.time us ts d)) (timed_good of _ _ z (covers_left s.time us ts d))
  operand_good (constant b) frames nodes made n f c = All-cons IsGood (Const b) [] (tt, tt) (All-nil IsGood)
  operand_good {s} (enclosed {ts = ts} d) frames nodes made n f c =
      let x = fine_split s (st at_operand (paren ∷ frames) nodes made) ts (close_paren ∷ []) f.1 in
      derived_good d (omega arith) (paren ∷ frames) nodes made (omega arith) n x.0
      (covers_left s.time ts (close_paren ∷ []) (covers_rest s.time open_paren (ts ++ close_paren ∷ []) c))
  operand_good {s} (compared {a = a} x) frames nodes made n f c = All-cons IsGood (Leaf a) [] (tt, atom_few s x frames nodes made f) (All-nil IsGood)

-- a list taken from its first element, the last one first
pub reverse_more : (t : Token) (ts before : List Token) → reverse (t ∷ ts) ++ before ≡ reverse ts ++ t ∷ before
reverse_more t ts before = ap (λ z. z ++ before) (reverse-append (t ∷ []) ts) ∙ append_assoc (reverse ts) (t ∷ []) before

-- the tokens of a text that is not refused make few nodes
free_few : (before ts : List Token) → AreFree before ts → nodes_made before ≤ 256 → nodes_made (reverse ts ++ before) ≤ 256
free_few before [] h l = l
free_few before (t ∷ ts) h l = rw (reverse_more t ts before) (free_few (t ∷ before) ts h.1 h.0.few)

-- the nodes of a text that is not refused may be built
pub nodes_ready : (text : List ℕ) (s : Scale) {ts : List Token} {ns : List Node} → Lexes text ts
    → ((r : FormulaFault) → ¬ TokenFault [] 0 text r) → IsFormula s 0 ts ns
    → time_digits ts ≤ s.time → AreNodes ns
nodes_ready text s {ts} {ns} l h f d =
    let free = tokens_free l [] 0 h in
    let t = formula_derived 1 (omega arith) f in
    let good = derived_good t (omega arith) [] [] 0 (omega arith) refl (free_fine s [] ts free) (covers_all ts s.time d free) in
    let tree = derived_tree t in
    let (q, g, i) = formula_runs s f in
    let back : reverse (reverse ts) ≡ ts = reverse-reverse ts in
    let state : run s (reverse ts) ≡ Some q = run_go s (reverse ts) ∙ (ap (λ z. go s (Some start) z) back ∙ g) in
    let made : nodes_made (reverse ts) ≡ 0 + length ns = run_nodes s (reverse ts) q state ∙ i.count in
    let few : nodes_made (reverse ts) ≤ 256 = rw append-nil at (free_few [] ts free (omega arith)) in
    record {
      few = omega (arith, made, few);
      order = tree_order tree;
      root = tree_root tree;
      bounds = All-weaker IsGood HasBounds (λ n g. g.0) ns good;
      terms = All-weaker IsGood HasFewTerms (λ n g. g.1) ns good;
    }
