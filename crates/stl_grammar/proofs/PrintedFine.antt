-- The tokens of nodes within their limits, with few decimals: no number passes its limit, no bound is out of order, and no fifth term begins.
use Rattle.std.proofs.Common.{◌≡◌, ℕ, suc, ◌+◌, ◌-◌, ◌*◌, ◌^◌, ◌<◌, ◌≤◌, List, [], ◌∷◌, ◌++◌, length}
use Rattle.std.proofs.Common.{refl, ap, sym, ◌∙◌, subst, Bool, true, false, arith, append_assoc, lit<, max}
use Rattle.std.specs.Prelude.{codes, nat_lt, nat_abs, neg_ℤ, pos, Option, Some, None, All, ◌==◌, ◌||◌}
use Rattle.std.proofs.Math.Nat.{mul-le-mul_right, one-le-pow}
use Rattle.std.proofs.lemmas.Bool.Decides.{nat_tests}
use Rattle.std.proofs.lemmas.List.{length_push}
use Rattle.std.proofs.lemmas.List.Elements.{All-head, All-tail}
use Rattle.stl_syntax.specs.Characters.{ticks}
use Rattle.stl_syntax.specs.Limits.{reach_of_bound}
use Rattle.stl_syntax.specs.WellFormed.{IsTermInLimits, IsAtomInLimits, IsInOrder}
use Rattle.stl_syntax.specs.declared.scale.Scale.{Scale}
use Rattle.stl_syntax.specs.declared.atom.Atom.{Atom}
use Rattle.stl_syntax.specs.declared.atom.Term.{Term}
use Rattle.stl_syntax.specs.declared.rel.Rel.{Rel}
use Rattle.stl_syntax.specs.declared.node.Node.{Node}
use Rattle.stl_grammar.specs.Grammar.{Token, word, number, relation, open_paren, close_paren, comma, star, plus, minus}
use Rattle.stl_grammar.specs.Grammar.{IsConstant, plain, positive, negative, IsTerm, name as term_name, scaled}
use Rattle.stl_grammar.specs.Grammar.{AreTerms, more_plus, more_minus, IsAtom, first, signed}
use Rattle.stl_grammar.specs.Grammar.{none as no_terms}
use Rattle.stl_grammar.specs.declared.fault.What.{What}
use Rattle.stl_grammar.specs.declared.fault.What.TheVariants.{Operand as AnOperand, Bracket, Number, Constant}
use Rattle.stl_grammar.specs.FormulaRefusals.{passes_limit}
use Rattle.stl_grammar.specs.Machine.{kind, at_operand, at_bound, at_low, at_term, at_sign, at_constant, at_end, Frame, paren, negation, State, top_rank}
use Rattle.stl_grammar.specs.Machine.{timed_frame, connective_frame, step_from, ranks, expected_at, fifth_at, disorder_at}
use Rattle.stl_grammar.specs.declared.operator.Timed.{Timed}
use Rattle.stl_grammar.specs.declared.operator.Timed.TheVariants.{Until as TUntil, Since as TSince, Eventually as TEventually}
use Rattle.stl_grammar.specs.declared.operator.Timed.TheVariants.{Always as TAlways, Once as TOnce, Historically as THistorically}
use Rattle.stl_grammar.proofs.NumberLemmas.{abs_neg}
use Rattle.stl_grammar.proofs.Derivations.{connective_word, left_binds, timed_word, timed_node, Bounded, left_out, within, endless, has_upper}
use Rattle.stl_grammar.proofs.Derivations.{Opens, opens_in, opens_out, Closes, closes_in, closes_out}
use Rattle.stl_grammar.proofs.Derivations.{Operand, negated, prefixed, constant, enclosed, compared, Derived, joined, beside, alone, operand_begins}
use Rattle.stl_grammar.proofs.MachineRuns.{go, go_then, at, st, timed_st, term_of, term_runs, first_runs, terms_run, signed_runs, skips, opens_step}
use Rattle.stl_grammar.proofs.MachineRuns.{closes_step, ends_step, inf_step, connective_steps, beside_steps, before_steps, count_is, operand_state}
use Rattle.stl_grammar.proofs.MachineRuns.{has_room, derived_runs, operand_runs}
use Rattle.stl_grammar.proofs.ReadNodes.{power_parts, cross}
use Rattle.stl_grammar.proofs.TokenNeat.{IsNeat}
use Rattle.stl_grammar.proofs.PrintedRead.{IsFit, all_left, all_right, all_last}

-- the token is a number past its limit where `what` is expected
abbrev pub bad_of : What → Token → Bool
bad_of what (number n k) = passes_limit what n k
bad_of what _ = false

-- the token begins no fifth term, is no upper bound less than the lower, and no number past its limit
abbrev pub FineAt : Option State → Token → Type 0
FineAt None t = Unit {0}
FineAt (Some q) t = (fifth_at q.place (length q.terms) t ≡ false) × (disorder_at q.place t ≡ false)
    × (bad_of (expected_at q.place (ranks q.frames)) t ≡ false)

-- nor are those after it
abbrev pub Fine : Scale → Option State → List Token → Type 0
Fine s o [] = Unit {0}
Fine s o (t ∷ ts) = FineAt o t × Fine s (step_from s o t) ts

fine_then : (s : Scale) (o m : Option State) (ts us : List Token) → Fine s o ts → go s o ts ≡ m → Fine s m us → Fine s o (ts ++ us)
fine_then s o m [] us f e g = rw e g
fine_then s o m (t ∷ ts) us f e g = (f.0, fine_then s (step_from s o t) m ts us f.1 e g)

-- the places in tokens where decimals count
pub data Piece : Type 0 where
  bounds : ℕ → ℕ → ℕ → ℕ → Piece
  low : ℕ → ℕ → Piece
  coefficient : ℕ → ℕ → Piece
  after_relation : Rel → ℕ → ℕ → Piece
  after_plus : Rel → ℕ → ℕ → Piece
  after_minus : Rel → ℕ → ℕ → Piece

abbrev pub these : Piece → List Token
these (bounds a j b k) = number a j ∷ comma ∷ number b k ∷ []
these (low a j) = number a j ∷ comma ∷ []
these (coefficient n k) = number n k ∷ star ∷ []
these (after_relation r n k) = relation r ∷ number n k ∷ []
these (after_plus r n k) = relation r ∷ plus ∷ number n k ∷ []
these (after_minus r n k) = relation r ∷ minus ∷ number n k ∷ []

-- the scale has digits enough, and a coefficient has no decimals
abbrev pub Says : Scale → Piece → Type 0
Says s (bounds a j b k) = (j ≤ s.time) × (k ≤ s.time)
Says s (low a j) = j ≤ s.time
Says s (coefficient n k) = k ≡ 0
Says s (after_relation r n k) = k ≤ s.value
Says s (after_plus r n k) = k ≤ s.value
Says s (after_minus r n k) = k ≤ s.value

abbrev pub Pieces : Scale → List Token → Type 0
Pieces s ts = (pre post : List Token) (x : Piece) → ts ≡ pre ++ (these x ++ post) → Says s x

pieces_left : (s : Scale) (ts us : List Token) → Pieces s (ts ++ us) → Pieces s ts
pieces_left s ts us h pre post x e = h pre (post ++ us) x
    (ap (λ z. z ++ us) e ∙ (append_assoc pre (these x ++ post) us ∙ ap (λ z. pre ++ z) (append_assoc (these x) post us)))

pieces_right : (s : Scale) (ts us : List Token) → Pieces s (ts ++ us) → Pieces s us
pieces_right s ts us h pre post x e = h (ts ++ pre) post x (ap (λ z. ts ++ z) e ∙ sym (append_assoc ts pre (these x ++ post)))

pieces_rest : (s : Scale) (t : Token) (ts : List Token) → Pieces s (t ∷ ts) → Pieces s ts
pieces_rest s t ts h = pieces_right s (t ∷ []) ts h

neat_rest : (s : Scale) (t : Token) (ts : List Token) → IsNeat s (t ∷ ts) → IsNeat s ts
neat_rest s (number n k) ts h = let x = h.short.time in record { short = record { time = omega (arith, x); value = h.short.value }; plain = h.plain.1 }
neat_rest s (relation r) ts h = let x = h.short.value in record { short = record { time = h.short.time; value = omega (arith, x) }; plain = h.plain }
neat_rest s (word w) ts h = record { short = record { time = h.short.time; value = h.short.value }; plain = h.plain }
neat_rest s _ ts h = record { short = record { time = h.short.time; value = h.short.value }; plain = h.plain }

neat_after : (s : Scale) (pre ts : List Token) → IsNeat s (pre ++ ts) → IsNeat s ts
neat_after s [] ts h = h
neat_after s (t ∷ pre) ts h = neat_after s pre ts (neat_rest s t (pre ++ ts) h)

says : (s : Scale) (post : List Token) (x : Piece) → IsNeat s (these x ++ post) → Says s x
says s post (bounds a j b k) h = let x = h.short.time in (omega (arith, x), omega (arith, x))
says s post (low a j) h = let x = h.short.time in omega (arith, x)
says s post (coefficient n k) h = h.plain.0
says s post _ h = let x = h.short.value in omega (arith, x)

-- neat tokens are so piece by piece
pub neat_pieces : (s : Scale) (ts : List Token) → IsNeat s ts → Pieces s ts
neat_pieces s ts h pre post x e = says s post x (neat_after s pre (these x ++ post) (rw e at h))

-- a number is at most its ticks
ticks_least : (d n k limit : ℕ) → ticks d n k ≤ limit → n ≤ limit
ticks_least d n k limit h =
    let x : 1 ≤ 10 ^ (d - k) = one-le-pow (d - k) 10 (lit< tt) in
    let y : 1 * n ≤ 10 ^ (d - k) * n = mul-le-mul_right n x in
    let z : 10 ^ (d - k) * n ≡ n * 10 ^ (d - k) = omega arith in omega (arith, y, z, h)

bound_fine : (d n k : ℕ) → d ≤ 6 → k ≤ d → ticks d n k ≤ 4294967295 → passes_limit Number n k ≡ false
bound_fine d n k s l h = both n k (omega (arith, s, l)) (ticks_least d n k 4294967295 h)
  where
    both : (n k : ℕ) → k ≤ 6 → n ≤ 4294967295 → (nat_lt 6 k || nat_lt 4294967295 n) ≡ false
    both n k x y = grind (arith, nat_tests, x, y)

limit_fine : (d n k : ℕ) → d ≤ 6 → k ≤ d → ticks d n k ≤ 1073741824 → passes_limit Constant n k ≡ false
limit_fine d n k s l h = both n k (omega (arith, s, l)) (ticks_least d n k 1073741824 h)
  where
    both : (n k : ℕ) → k ≤ 6 → n ≤ 1073741824 → (nat_lt 6 k || nat_lt 1073741824 n) ≡ false
    both n k x y = grind (arith, nat_tests, x, y)

coefficient_fine : (n k : ℕ) → k ≡ 0 → n ≤ 16 → (nat_lt 0 k || nat_lt 16 n) ≡ false
coefficient_fine n k e h = grind (arith, nat_tests, e, h)

order_fine : (d a j b k : ℕ) → j ≤ d → k ≤ d → ticks d a j ≤ ticks d b k → nat_lt (b * 10 ^ j) (a * 10 ^ k) ≡ false
order_fine d a j b k l m h =
    let x : 0 < 10 ^ (d - j) = one-le-pow (d - j) 10 (lit< tt) in
    let y : 0 < 10 ^ (d - k) = one-le-pow (d - k) 10 (lit< tt) in
    let e : 10 ^ k * 10 ^ (d - k) ≡ 10 ^ d = let z : 10 ^ k * 10 ^ (d - k) ≡ 10 ^ (d - k) * 10 ^ k = omega arith in z ∙ power_parts d k m in
    let f : 10 ^ j * 10 ^ (d - j) ≡ 10 ^ d = let z : 10 ^ j * 10 ^ (d - j) ≡ 10 ^ (d - j) * 10 ^ j = omega arith in z ∙ power_parts d j l in
    not_less (a * 10 ^ k) (b * 10 ^ j) (cross a b (10 ^ k) (10 ^ j) (10 ^ (d - k)) (10 ^ (d - j)) (10 ^ d) e f y x h)
  where
    not_less : (n o : ℕ) → n ≤ o → nat_lt o n ≡ false
    not_less n o e = grind (arith, nat_tests, e)

-- the two numbers of a bound
abbrev TwoFine : ℕ → ℕ → ℕ → ℕ → Type 0
TwoFine a j b k = (passes_limit Number a j ≡ false) × (nat_lt (b * 10 ^ j) (a * 10 ^ k) ≡ false) × (passes_limit Number b k ≡ false)

two_fine : (d a j b k : ℕ) → d ≤ 6 → (j ≤ d) × (k ≤ d) → ticks d a j ≤ ticks d b k → ticks d b k ≤ 4294967295 → TwoFine a j b k
two_fine d a j b k s c o l = (bound_fine d a j s c.0 (omega (arith, o, l)), order_fine d a j b k c.0 c.1 o, bound_fine d b k s c.1 l)

-- a bracket of a bound is no number
opening_fine : {o : Timed} {t : Token} {x : Bool} (what : What) → Opens o t x → bad_of what t ≡ false
opening_fine what opens_in = refl
opening_fine what (opens_out e) = refl

closing_fine : {o : Timed} {t : Token} {x : Bool} (what : What) → Closes o t x → bad_of what t ≡ false
closing_fine what closes_in = refl
closing_fine what (closes_out e) = refl

-- a bound, and the operand after it
bound_then_fine : (s : Scale) {of : Timed} {a : ℕ} {b : Option ℕ} {us : List Token} {x y : Bool} {k : ℕ} {ts : List Token} {ns : List Node}
    → Bounded s.time of us a b x y → Operand s k ts ns → s.time ≤ 6 → Pieces s (us ++ ts) → IsInOrder a b × (reach_of_bound a b ≤ 4294967295)
    → (frames : List Frame) (nodes : List Node) (made : ℕ) → Fine s (timed_st of a b x y frames nodes made) ts
    → Fine s (st (at_bound of) frames nodes made) (us ++ ts)
unfolding kind
bound_then_fine s {of} (left_out e) r d c l frames nodes made f =
    let b = operand_begins r in let g = rw b.is at f in
    rw b.is ((refl, refl, g.0.2), rw (← skips s of e frames nodes made b.head b.other) at g.1)
bound_then_fine s {of} {ts = ts} (within {a = a} {j} {b} {k} {t} {u} {x} p q) r d c l frames nodes made f =
    let z = two_fine s.time a j b k d (c (t ∷ []) (u ∷ ts) (bounds a j b k) refl) l.0 l.1 in
    let e = subst (λ z. Fine s z ts) (sym (closes_step s of x a j q b k frames nodes made)) f in
    let g : Fine s (st (at_low of x) frames nodes made) (number a j ∷ comma ∷ number b k ∷ u ∷ ts) =
    ((refl, refl, z.0), ((refl, refl, refl), ((refl, z.1, z.2), ((refl, refl, closing_fine Bracket q), e)))) in (
      (refl, refl, opening_fine AnOperand p),
      subst (λ z. Fine s z (number a j ∷ comma ∷ number b k ∷ u ∷ ts)) (sym (opens_step s of p frames nodes made)) g,
    )
bound_then_fine s {of} {ts = ts} (endless {a = a} {j} {t} {u} {x} e p q) r d c l frames nodes made f =
    let z = bound_fine s.time a j d (c (t ∷ []) (word (codes "inf") ∷ u ∷ ts) (low a j) refl) l.1 in
    let g = subst (λ z. Fine s z ts) (sym (ends_step s of x a j q frames nodes made)) f in
    let i = subst (λ z. Fine s z (u ∷ ts)) (sym (inf_step s of e x a j frames nodes made)) ((refl, refl, closing_fine Bracket q), g) in
    let m : Fine s (st (at_low of x) frames nodes made) (number a j ∷ comma ∷ word (codes "inf") ∷ u ∷ ts) =
    ((refl, refl, z), ((refl, refl, refl), ((refl, refl, refl), i))) in (
      (refl, refl, opening_fine AnOperand p),
      subst (λ z. Fine s z (number a j ∷ comma ∷ word (codes "inf") ∷ u ∷ ts)) (sym (opens_step s of p frames nodes made)) m,
    )

-- the bound of an operator's node is in order and within the limit
abbrev IsSmall : ℕ → Option ℕ → Type 0
IsSmall a b = IsInOrder a b × (reach_of_bound a b ≤ 4294967295)

small_bound : (of : Timed) {d a : ℕ} {b : Option ℕ} {us : List Token} {x y : Bool} (p q : ℕ) → Bounded d of us a b x y
    → IsFit (timed_node of a b x y p q) → IsSmall a b
small_bound TUntil {a = a} p q w f = subst (λ z. IsSmall a z) (has_upper TUntil refl w) (f.bounds, f.reach)
small_bound TEventually {a = a} p q w f = subst (λ z. IsSmall a z) (has_upper TEventually refl w) (f.bounds, f.reach)
small_bound TAlways {a = a} p q w f = subst (λ z. IsSmall a z) (has_upper TAlways refl w) (f.bounds, f.reach)
small_bound TSince p q w f = (f.bounds, f.reach)
small_bound TOnce p q w f = (f.bounds.0, f.reach)
small_bound THistorically p q w f = (f.bounds.0, f.reach)

-- atoms
term_fine : (s : Scale) {ts : List Token} {k : ℕ} {w : List ℕ} → IsTerm ts k w → k ≤ 16 → Pieces s ts
    → (less : Bool) (frames : List Frame) (nodes : List Node) (terms : List Term) (made : ℕ) → Fine s (at (at_term less) frames nodes terms made) ts
term_fine s (term_name e) l c less frames nodes terms made = ((refl, refl, refl), tt)
term_fine s (scaled {n = i} {k} {w} e) l c less frames nodes terms made =
    ((refl, refl, coefficient_fine i k (c [] (word w ∷ []) (coefficient i k) refl) l), ((refl, refl, refl), ((refl, refl, refl), tt)))

first_fine : (s : Scale) {ts : List Token} {k : ℕ} {w : List ℕ} → IsTerm ts k w → k ≤ 16 → Pieces s ts
    → (frames : List Frame) (nodes : List Node) (made : ℕ) → Fine s (st at_operand frames nodes made) ts
first_fine s (term_name e) l c frames nodes made = ((refl, refl, refl), tt)
first_fine s (scaled {n = i} {k} {w} e) l c frames nodes made =
    ((refl, refl, coefficient_fine i k (c [] (word w ∷ []) (coefficient i k) refl) l), ((refl, refl, refl), ((refl, refl, refl), tt)))

not_fifth : (j m : ℕ) → j + suc m ≤ 4 → (j == 4) ≡ false
not_fifth j m l = let x : j < 4 = omega (arith, l) in below j x
  where
    below : (j : ℕ) → j < 4 → (j == 4) ≡ false
    below j x = grind (arith, nat_tests, x)

plus_coefficient : (k : ℕ) (w : List ℕ) (terms : List Term) → All IsTermInLimits (record { coef = pos k; name = w } ∷ terms) → k ≤ 16
plus_coefficient k w terms g = (All-head IsTermInLimits (record { coef = pos k; name = w }) terms g).coef

minus_coefficient : (k : ℕ) (w : List ℕ) (terms : List Term) → All IsTermInLimits (record { coef = neg_ℤ (pos k); name = w } ∷ terms) → k ≤ 16
minus_coefficient k w terms g = let x = (All-head IsTermInLimits (record { coef = neg_ℤ (pos k); name = w }) terms g).coef in rw (abs_neg k) at x

few_more : (terms : List Term) (t : Term) (n : ℕ) → length terms + suc n ≤ 4 → length (terms ++ t ∷ []) + n ≤ 4
few_more terms t n l = omega (arith, length_push terms t, l)

terms_fine : (s : Scale) {us : List Token} {more : List Term} → AreTerms us more → (terms : List Term) → length terms + length more ≤ 4
    → All IsTermInLimits more → Pieces s us
    → (frames : List Frame) (nodes : List Node) (made : ℕ) → Fine s (at at_sign frames nodes terms made) us
terms_fine s no_terms terms l g c frames nodes made = tt
terms_fine s (more_plus {k = k} {w} {ts = ts} {us} {terms = more} t u) terms l g c frames nodes made =
    let r = pieces_rest s plus (ts ++ us) c in
    let x = term_of s false k w in (
      (not_fifth (length terms) (length more) l, refl, refl),
      fine_then s (at (at_term false) frames nodes terms made) (at at_sign frames nodes (terms ++ x ∷ []) made) ts us
          (term_fine s t (plus_coefficient k w more g) (pieces_left s ts us r) false frames nodes terms made) (term_runs s t false frames nodes terms made)
          (terms_fine s u (terms ++ x ∷ []) (few_more terms x (length more) l) (All-tail IsTermInLimits x more g) (pieces_right s ts us r) frames nodes made),
    )
terms_fine s (more_minus {k = k} {w} {ts = ts} {us} {terms = more} t u) terms l g c frames nodes made =
    let r = pieces_rest s minus (ts ++ us) c in
    let x = term_of s true k w in (
      (not_fifth (length terms) (length more) l, refl, refl),
      fine_then s (at (at_term true) frames nodes terms made) (at at_sign frames nodes (terms ++ x ∷ []) made) ts us
          (term_fine s t (minus_coefficient k w more g) (pieces_left s ts us r) true frames nodes terms made) (term_runs s t true frames nodes terms made)
          (terms_fine s u (terms ++ x ∷ []) (few_more terms x (length more) l) (All-tail IsTermInLimits x more g) (pieces_right s ts us r) frames nodes made),
    )

signed_fine : (s : Scale) {us : List Token} {t : Term} {more : List Term} → AreTerms us (t ∷ more) → 1 + length more ≤ 4
    → All IsTermInLimits (t ∷ more) → Pieces s us
    → (frames : List Frame) (nodes : List Node) (made : ℕ) → Fine s (st at_operand frames nodes made) us
signed_fine s (more_plus {k = k} {w} {ts = ts} {us} {terms = more} t u) l g c frames nodes made =
    let r = pieces_rest s plus (ts ++ us) c in
    let x = term_of s false k w in (
      (refl, refl, refl),
      fine_then s (at (at_term false) frames nodes [] (suc made)) (at at_sign frames nodes (x ∷ []) (suc made)) ts us
          (term_fine s t (plus_coefficient k w more g) (pieces_left s ts us r) false frames nodes [] (suc made))
          (term_runs s t false frames nodes [] (suc made))
          (terms_fine s u (x ∷ []) l (All-tail IsTermInLimits x more g) (pieces_right s ts us r) frames nodes (suc made)),
    )
signed_fine s (more_minus {k = k} {w} {ts = ts} {us} {terms = more} t u) l g c frames nodes made =
    let r = pieces_rest s minus (ts ++ us) c in
    let x = term_of s true k w in (
      (refl, refl, refl),
      fine_then s (at (at_term true) frames nodes [] (suc made)) (at at_sign frames nodes (x ∷ []) (suc made)) ts us
          (term_fine s t (minus_coefficient k w more g) (pieces_left s ts us r) true frames nodes [] (suc made))
          (term_runs s t true frames nodes [] (suc made))
          (terms_fine s u (x ∷ []) l (All-tail IsTermInLimits x more g) (pieces_right s ts us r) frames nodes (suc made)),
    )

constant_fine : (s : Scale) (r : Rel) {vs : List Token} {c : _} → IsConstant s.value vs c → s.value ≤ 6 → nat_abs c ≤ 1073741824 → Pieces s (relation r ∷ vs)
    → (frames : List Frame) (nodes : List Node) (terms : List Term) (made : ℕ) → Fine s (at (at_constant r) frames nodes terms made) vs
constant_fine s r (plain {n = i} {k}) d l c frames nodes terms made =
    ((refl, refl, limit_fine s.value i k d (c [] [] (after_relation r i k) refl) l), tt)
constant_fine s r (positive {n = i} {k}) d l c frames nodes terms made =
    ((refl, refl, refl), ((refl, refl, limit_fine s.value i k d (c [] [] (after_plus r i k) refl) l), tt))
constant_fine s r (negative {n = i} {k}) d l c frames nodes terms made =
    ((refl, refl, refl), ((refl, refl, limit_fine s.value i k d (c [] [] (after_minus r i k) refl) (rw (abs_neg (ticks s.value i k)) at l)), tt))

atom_fine : (s : Scale) {ts : List Token} {a : Atom} → IsAtom s.value ts a → s.value ≤ 6 → IsAtomInLimits a → Pieces s ts
    → (frames : List Frame) (nodes : List Node) (made : ℕ) → Fine s (st at_operand frames nodes made) ts
atom_fine s (first {k = k} {w} {ts = ts} {us} {vs} {terms = more} {rel = rel} t u v) d g c frames nodes made =
    let x = pieces_left s (ts ++ us) (relation rel ∷ vs) c in
    let few = g.few in
    let y = term_of s false k w in
    let r = terms_run s u frames nodes (y ∷ []) (suc made) in
    fine_then s (st at_operand frames nodes made) (at at_sign frames nodes (y ∷ more) (suc made)) (ts ++ us) (relation rel ∷ vs)
    (fine_then s (st at_operand frames nodes made) (at at_sign frames nodes (y ∷ []) (suc made)) ts us
    (first_fine s t (plus_coefficient k w more g.terms) (pieces_left s ts us x) frames nodes made) (first_runs s t frames nodes made)
    (terms_fine s u (y ∷ []) (omega (arith, few)) (All-tail IsTermInLimits y more g.terms) (pieces_right s ts us x) frames nodes (suc made)))
    (go_then s _ _ _ ts us (first_runs s t frames nodes made) r)
    ((refl, refl, refl), constant_fine s rel v d g.limit (pieces_right s (ts ++ us) (relation rel ∷ vs) c) frames nodes (y ∷ more) (suc made))
atom_fine s (signed {us = us} {vs} {terms = more} {rel = rel} {t = t} u v) d g c frames nodes made =
    let few = g.few in
    fine_then s (st at_operand frames nodes made) (at at_sign frames nodes (t ∷ more) (suc made)) us (relation rel ∷ vs)
    (signed_fine s u (omega (arith, few)) g.terms (pieces_left s us (relation rel ∷ vs) c) frames nodes made) (signed_runs s u frames nodes made)
    ((refl, refl, refl), constant_fine s rel v d g.limit (pieces_right s us (relation rel ∷ vs) c) frames nodes (t ∷ more) (suc made))

-- the nodes before the last two or one
first_part : (ns ms : List Node) (n : Node) → All IsFit (ns ++ ms ++ n ∷ []) → All IsFit ns
first_part ns ms n f = all_left IsFit ns ms (all_left IsFit (ns ++ ms) (n ∷ []) f)

second_part : (ns ms : List Node) (n : Node) → All IsFit (ns ++ ms ++ n ∷ []) → All IsFit ms
second_part ns ms n f = all_right IsFit ns ms (all_left IsFit (ns ++ ms) (n ∷ []) f)

last_part : (ns ms : List Node) (n : Node) → All IsFit (ns ++ ms ++ n ∷ []) → IsFit n
last_part ns ms n f = all_last IsFit (ns ++ ms) n f

module _ (s : Scale) (time : s.time ≤ 6) (value : s.value ≤ 6) where
  -- the connective after its left side
  word_fine : (q : State) (w : List ℕ) → q.place ≡ at_end → FineAt (Some q) (word w)
  word_fine q w e = rw e (refl, refl, refl)

  mutual
    unfolding kind

    -- the tokens of a formula are so from its start
    pub derived_fine : {r k : ℕ} {ts : List Token} {ns : List Node} → Derived s r k ts ns → r ≤ 5 → All IsFit ns → Pieces s ts
        → (frames : List Frame) (nodes : List Node) (made : ℕ) → top_rank frames < max 2 r → length nodes ≡ k
        → Fine s (st at_operand frames nodes made) ts
    derived_fine {r} {k} (joined o {ts = ts} {us} {ns} {ms} i d e) five f c frames nodes made l n =
        let w : Token = word (connective_word o) in
        let room = has_room o in
        let m : top_rank frames < left_binds o = omega (arith, l, i, room.left, room.two) in
        let (q, g, h) = derived_runs s d room.few frames nodes made (omega (arith, m)) n in
        let x = pieces_rest s w us (pieces_right s ts (w ∷ us) c) in
        let y = derived_fine e room.last (second_part ns ms _ f) x (connective_frame o (length (nodes ++ ns) - 1) ∷ frames) (nodes ++ ns)
        (suc (made + length ns)) room.right (count_is k nodes ns n) in
        fine_then s (st at_operand frames nodes made) (Some q) ts (w ∷ us)
        (derived_fine d room.few (first_part ns ms _ f) (pieces_left s ts (w ∷ us) c) frames nodes made (omega (arith, m)) n) g
        (word_fine q (connective_word o) h.place, rw (connective_steps s o q frames (nodes ++ ns) (made + length ns) m h) y)
    derived_fine {r} {k} (beside of {a = a} {b} {x} {y} {ts} {us} {vs} {ns} {ms} i four p z q) five f c frames nodes made l n =
        let w : Token = word (timed_word of) in
        let m : top_rank frames < 4 = omega (arith, l, four) in
        let d = pieces_rest s w (us ++ vs) (pieces_right s ts (w ∷ (us ++ vs)) c) in
        let g = bound_then_fine s z q time d (small_bound of _ _ z (last_part ns ms _ f)) frames (nodes ++ ns) (suc (made + length ns))
        (operand_fine q (second_part ns ms _ f) (pieces_right s us vs d) (timed_frame of a b x y (length (nodes ++ ns) - 1) ∷ frames) (nodes ++ ns)
        (suc (made + length ns)) (count_is k nodes ns n)) in
        fine_then s (st at_operand frames nodes made) (st at_end frames (nodes ++ ns) (made + length ns)) ts (w ∷ (us ++ vs))
        (operand_fine p (first_part ns ms _ f) (pieces_left s ts (w ∷ (us ++ vs)) c) frames nodes made n)
        (operand_runs s p frames nodes made n ∙ operand_state s frames (nodes ++ ns) (made + length ns) (omega (arith, m)))
        ((refl, refl, refl), rw (beside_steps s of i frames (nodes ++ ns) (made + length ns) m) g)
    derived_fine (alone p) five f c frames nodes made l n = operand_fine p f c frames nodes made n

    operand_fine : {k : ℕ} {ts : List Token} {ns : List Node} → Operand s k ts ns → All IsFit ns → Pieces s ts
        → (frames : List Frame) (nodes : List Node) (made : ℕ) → length nodes ≡ k → Fine s (st at_operand frames nodes made) ts
    operand_fine (negated {ts = ts} {ns} p) f c frames nodes made n =
        ((refl, refl, refl), operand_fine p (all_left IsFit ns _ f) (pieces_rest s (word (codes "not")) ts c) (negation ∷ frames) nodes (suc made) n)
    operand_fine (prefixed of {a = a} {b} {x} {y} {ts} {us} {ns} i z p) f c frames nodes made n =
        let d = pieces_rest s (word (timed_word of)) (us ++ ts) c in
        let g = bound_then_fine s z p time d (small_bound of _ _ z (all_last IsFit ns _ f)) frames nodes (suc made)
        (operand_fine p (all_left IsFit ns _ f) (pieces_right s us ts d) (timed_frame of a b x y (length nodes - 1) ∷ frames) nodes (suc made) n) in
        ((refl, refl, refl), rw (before_steps s of i frames nodes made) g)
    operand_fine (constant b) f c frames nodes made n = ((refl, refl, refl), tt)
    operand_fine (enclosed {ts = ts} {ns} d) f c frames nodes made n =
        let (q, g, h) = derived_runs s d (omega arith) (paren ∷ frames) nodes made (omega arith) n in (
          (refl, refl, refl),
          fine_then s (st at_operand (paren ∷ frames) nodes made) (Some q) ts (close_paren ∷ [])
              (derived_fine d (omega arith) f (pieces_left s ts (close_paren ∷ []) (pieces_rest s open_paren (ts ++ close_paren ∷ []) c)) (paren ∷ frames)
              nodes made (omega arith) n) g (rw h.place (refl, refl, refl), tt),
        )
    operand_fine (compared x) f c frames nodes made n = let fit = all_last IsFit [] _ f in atom_fine s x value fit.atom c frames nodes made
