-- What the machine has read begins some formula.
use Rattle.std.proofs.Common.{◌≡◌, ℕ, zero, suc, ◌+◌, ◌-◌, ◌<◌, ◌≤◌, min, List, [], ◌∷◌, ◌++◌, length, refl, ap, sym, ◌∙◌, Bool, true, false}
use Rattle.std.proofs.Common.{if◌then◌else◌, arith, append_assoc}
use Rattle.std.specs.Prelude.{codes, reverse, nat_le, Option, Some, None}
use Rattle.std.proofs.lemmas.Bool.Decides.{nat_tests}
use Rattle.std.proofs.lemmas.List.{append-nil, reverse-append}
use Rattle.std.proofs.lemmas.Option.{same_Some, none-some}
use Rattle.stl_syntax.specs.Characters.{is_among}
use Rattle.stl_syntax.specs.declared.scale.Scale.{Scale}
use Rattle.stl_syntax.specs.declared.atom.Term.{Term}
use Rattle.stl_syntax.specs.declared.rel.Rel.{Rel}
use Rattle.stl_syntax.specs.declared.rel.Rel.TheVariants.{AtLeast}
use Rattle.stl_syntax.specs.declared.node.Node.{Node}
use Rattle.stl_grammar.specs.Grammar.{reserved, Token, word, number, relation, open_paren, close_paren, open_bracket, close_bracket, comma, star, plus, minus}
use Rattle.stl_grammar.specs.Grammar.{IsConstant, plain, positive, negative, IsTerm, scaled, AreTerms, more_plus, more_minus, first, signed}
use Rattle.stl_grammar.specs.Grammar.{name as term_name, none as no_terms}
use Rattle.stl_grammar.specs.Operators.{is_beside, looks_back, may_be_open}
use Rattle.stl_grammar.specs.Machine.{Kind, kind, a_constant, a_negation, a_connective, a_timed, an_inf, a_name, Place, at_operand, at_bound, at_low}
use Rattle.stl_grammar.specs.Machine.{at_comma, at_high, at_closing, at_term, at_star, at_name, at_sign, at_constant, at_number, at_end}
use Rattle.stl_grammar.specs.Machine.{Frame, State, start, top_rank, frames_after, folded}
use Rattle.stl_grammar.specs.Machine.{opened, opening, closing, timed_frame, connective_frame, negation, begin_word}
use Rattle.stl_grammar.specs.Machine.{begin_operand, begin_bound, step_inf, end_bound, step_name, after_word, closed, step, step_from, step_at, run}
use Rattle.stl_grammar.specs.Machine.{ranks, pending_of, ends_at}
use Rattle.stl_grammar.specs.FormulaRefusals.{has_paren, MayBegin, MayEnd}
use Rattle.stl_grammar.specs.declared.operator.Timed.{Timed}
use Rattle.stl_grammar.proofs.Derivations.{Connective, by_and, by_or, by_implies, connective_word}
use Rattle.stl_grammar.proofs.Derivations.{binds, left_binds, right_binds, timed_word, one_binds, has_three}
use Rattle.stl_grammar.proofs.Derivations.{Opens, opens_in, opens_out, Closes, closes_in, closes_out, Bounded, left_out as no_bound, within, endless}
use Rattle.stl_grammar.proofs.Derivations.{Operand, negated, prefixed, constant, enclosed, compared, Derived, joined, beside, alone, looser, as_formula}
use Rattle.stl_grammar.proofs.MachineRuns.{no_paren}
use Rattle.stl_grammar.proofs.WordKinds.{OfKind, kind_of}

-- the grammar without its nodes: what binds at least as tightly as r, and an operand, which binds with 5
abbrev scale : Scale
scale = record { time = 0; value = 0 }

abbrev Binds : ℕ → List Token → Type 0
Binds r ts = (k : ℕ) → (ns : List Node) × Derived scale r k ts ns

abbrev AnOperand : List Token → Type 0
AnOperand ts = (k : ℕ) → (ns : List Node) × Operand scale k ts ns

loosened : (r r' : ℕ) (ts : List Token) → r ≤ r' → Binds r' ts → Binds r ts
loosened r r' ts l d k = ((d k).0, looser l (d k).1)

by_itself : (ts : List Token) → AnOperand ts → Binds 5 ts
by_itself ts p k = ((p k).0, alone (p k).1)

bare : {s : Scale} {r k : ℕ} {ts : List Token} {ns : List Node} → 5 ≤ r → Derived s r k ts ns → Operand s k ts ns
bare l (joined o i d e) = absurd (let b = has_three o in omega arith)
bare l (beside of i m p w q) = absurd (omega arith)
bare l (alone p) = p

an_operand : (ts : List Token) → Binds 5 ts → AnOperand ts
an_operand ts d k = ((d k).0, bare (omega arith) (d k).1)

-- what is left of a bound
data Closing (of : Timed) : List Token → Type 0 where
  the_end : (t : Token) (y : Bool) → closing of t ≡ Some y → Closing of (t ∷ [])

data High (of : Timed) : List Token → Type 0 where
  upper : (b k : ℕ) {us : List Token} → Closing of us → High of (number b k ∷ us)
  no_upper : {us : List Token} → looks_back of ≡ true → Closing of us → High of (word (codes "inf") ∷ us)

data Comma (of : Timed) : List Token → Type 0 where
  then_high : {us : List Token} → High of us → Comma of (comma ∷ us)

data Low (of : Timed) : List Token → Type 0 where
  lower : (a j : ℕ) {us : List Token} → Comma of us → Low of (number a j ∷ us)

data Bound (of : Timed) : List Token → Type 0 where
  left_out : looks_back of ≡ true → Bound of []
  opens : (t : Token) (x : Bool) {us : List Token} → opening of t ≡ Some x → Low of us → Bound of (t ∷ us)

-- a bracket of a bound is that of the table
an_opening : (of : Timed) (t : Token) (x : Bool) → opening of t ≡ Some x → Opens of t x
an_opening of open_bracket x h = let e : true ≡ x = same_Some true x h in rw (← e) opens_in
an_opening of close_bracket x h = split (may_be_open of) refl
  where
    split : (b : Bool) → may_be_open of ≡ b → Opens of close_bracket x
    split true f = let e : false ≡ x = same_Some false x (rw f at h) in rw (← e) (opens_out f)
    split false f = let z = rw f at h in absurd (none-some x z)
an_opening of _ x h = absurd (none-some x h)

a_closing : (of : Timed) (t : Token) (y : Bool) → closing of t ≡ Some y → Closes of t y
a_closing of close_bracket y h = let e : true ≡ y = same_Some true y h in rw (← e) closes_in
a_closing of open_bracket y h = split (may_be_open of) refl
  where
    split : (b : Bool) → may_be_open of ≡ b → Closes of open_bracket y
    split true f = let e : false ≡ y = same_Some false y (rw f at h) in rw (← e) (closes_out f)
    split false f = let z = rw f at h in absurd (none-some y z)
a_closing of _ y h = absurd (none-some y h)

-- and so is the bound
fits : (of : Timed) {us : List Token} → Bound of us → (a : ℕ) × (b : Option ℕ) × (x : Bool) × (y : Bool) × Bounded 0 of us a b x y
fits of (left_out h) = (_, _, _, _, no_bound h)
fits of (opens t x e (lower a j (then_high (upper b k (the_end u y h))))) = (_, _, x, y, within (an_opening of t x e) (a_closing of u y h))
fits of (opens t x e (lower a j (then_high (no_upper i (the_end u y h))))) = (_, _, x, _, endless i (an_opening of t x e) (a_closing of u y h))

-- every text of one kind after these tokens is one of the other
abbrev Fills : (List Token → Type 0) → (List Token → Type 0) → List Token → Type 0
Fills A B p = (ts : List Token) → A ts → B (p ++ ts)

-- how tightly its last operand binds at least of what binds with r
abbrev pub right_of : ℕ → ℕ
right_of zero = 0
right_of (suc zero) = 1
right_of (suc (suc r)) = min 5 (3 + r)

right_most : (r : ℕ) → right_of r ≤ 5
right_most zero = omega arith
right_most (suc zero) = omega arith
right_most (suc (suc r)) = omega arith

right_next : (r : ℕ) → right_of r ≤ suc r
right_next zero = omega arith
right_next (suc zero) = omega arith
right_next (suc (suc r)) = omega arith

-- what waits for its last operand, and the tokens up to the place where that one comes next
pub data Awaits : List Frame → List Token → Type 0 where
  nothing : Awaits [] []
  inside : {frames : List Frame} {pre : List Token} (f : Frame) → f.rank ≡ 0 → Awaits frames pre → Awaits (f ∷ frames) (pre ++ open_paren ∷ [])
  waits : {frames : List Frame} {pre : List Token} (f : Frame) (op : List Token) → 0 < f.rank → right_of (top_rank frames) ≤ f.rank
      → Fills (Binds (right_of f.rank)) (Binds f.rank) op → Awaits frames pre → Awaits (f ∷ frames) (pre ++ op)

-- after the tokens of what binds at least as tightly as r
record Stands (r : ℕ) (frames : List Frame) (whole : List Token) : Type 0 where
  pre : List Token
  last : List Token
  awaits : Awaits frames pre
  ends : Binds r last
  is : whole ≡ pre ++ last

-- with it ends what binds as tightly
folds : {frames : List Frame} {pre : List Token} → Awaits frames pre → (r n : ℕ) → 0 < r → r ≤ n → right_of (top_rank frames) ≤ n
    → (us : List Token) → Binds n us → Stands r (frames_after r frames) (pre ++ us)
folds nothing r n p l h us b = record { pre = []; last = us; awaits = nothing; ends = loosened r n us l b; is = refl }
folds (inside f e w) r n p l h us b =
    let g : nat_le r f.rank ≡ false = grind (arith, nat_tests, e, p) in
    rw g (record { pre = _; last = us; awaits = inside f e w; ends = loosened r n us l b; is = refl })
folds (waits {frames = frames} {pre = pre} f op q order fills w) r n p l h us b =
    split (nat_le r f.rank) refl (λ m. folds w r f.rank p m order (op ++ us) (fills us (loosened (right_of f.rank) n us h b)))
  where
    split : (c : Bool) → nat_le r f.rank ≡ c → (r ≤ f.rank → Stands r (frames_after r frames) (pre ++ (op ++ us)))
        → Stands r (frames_after r (f ∷ frames)) (pre ++ op ++ us)
    split true e x = let m : r ≤ f.rank = grind (arith, nat_tests, e) in rw (e, append_assoc pre op us) (x m)
    split false e x = rw e (record { pre = pre ++ op; last = us; awaits = waits f op q order fills w; ends = loosened r n us l b; is = refl })

-- what is left binds less tightly
pub after_top : (r : ℕ) (frames : List Frame) → 0 < r → top_rank (frames_after r frames) < r
after_top r [] l = l
after_top r (f ∷ frames) l = split (nat_le r f.rank) refl (after_top r frames l)
  where
    split : (b : Bool) → nat_le r f.rank ≡ b → top_rank (frames_after r frames) < r → top_rank (frames_after r (f ∷ frames)) < r
    split true e h = rw e h
    split false e h = let m : f.rank < r = grind (arith, nat_tests, e) in rw e m

-- an operand ends
finish : {frames : List Frame} {pre : List Token} → Awaits frames pre → (us : List Token) → AnOperand us → Stands 5 (frames_after 5 frames) (pre ++ us)
finish {frames = frames} w us p = folds w 5 5 (omega arith) (omega arith) (right_most (top_rank frames)) us (by_itself us p)

-- the operators before an operand
fills_not : Fills (Binds 5) (Binds 5) (word (codes "not") ∷ [])
fills_not ts p k = (_, alone (negated (an_operand ts p k).1))

fills_before : (of : Timed) → is_beside of ≡ false → (bs : List Token) → Bound of bs → Fills (Binds 5) (Binds 5) (word (timed_word of) ∷ bs)
fills_before of i bs f ts p k = (_, alone (prefixed of i (fits of f).4 (an_operand ts p k).1))

fills_beside : (of : Timed) → is_beside of ≡ true → (us bs : List Token) → Binds 5 us → Bound of bs
    → Fills (Binds 5) (Binds 4) (us ++ word (timed_word of) ∷ bs)
fills_beside of i us bs p f ts q k =
    let x = an_operand us p k in let y = an_operand ts q (k + length x.0) in
    rw (append_assoc us (word (timed_word of) ∷ bs) ts) (_, beside of {r = 4} i (omega arith) x.1 (fits of f).4 y.1)

fills_right : (o : Connective) (us : List Token) → Binds (left_binds o) us
    → Fills (Binds (right_binds o)) (Binds (binds o)) (us ++ word (connective_word o) ∷ [])
fills_right o us d ts e k =
    let p = d k in let q = e (k + length p.0) in
    rw (append_assoc us (word (connective_word o) ∷ []) ts) (_, joined o {r = binds o} (omega arith) p.1 q.1)

-- and how tightly they bind
abbrev pub rank_of : Timed → ℕ
rank_of of = if is_beside of then 4 else 5

prefix_waits : (of : Timed) → is_beside of ≡ false → (bs : List Token) → Bound of bs → (f : Frame) → f.rank ≡ rank_of of
    → {frames : List Frame} {pre : List Token} → Awaits frames pre → Awaits (f ∷ frames) (pre ++ word (timed_word of) ∷ bs)
prefix_waits of i bs b f r {frames} x =
    let e : f.rank ≡ 5 = r ∙ rw i refl in
    waits f (word (timed_word of) ∷ bs) (omega (arith, e)) (rw e (right_most (top_rank frames))) (rw e (fills_before of i bs b)) x

beside_waits : (of : Timed) → is_beside of ≡ true → (us bs : List Token) → Binds 5 us → Bound of bs → (f : Frame) → f.rank ≡ rank_of of
    → {frames : List Frame} {pre : List Token} → top_rank frames < 4 → Awaits frames pre → Awaits (f ∷ frames) (pre ++ (us ++ word (timed_word of) ∷ bs))
beside_waits of i us bs p b f r {frames} l x =
    let e : f.rank ≡ 4 = r ∙ rw i refl in
    waits f (us ++ word (timed_word of) ∷ bs) (omega (arith, e)) (omega (arith, right_next (top_rank frames), l, e)) (rw e (fills_beside of i us bs p b)) x

right_low : (o : Connective) (r : ℕ) → r < left_binds o → right_of r ≤ binds o
right_low by_and r l = omega (arith, right_next r, l)
right_low by_or r l = omega (arith, right_next r, l)
right_low by_implies zero l = omega arith
right_low by_implies (suc zero) l = omega arith
right_low by_implies (suc (suc r)) l = absurd (omega (arith, l))

right_is : (o : Connective) → right_of (binds o) ≡ right_binds o
right_is by_and = refl
right_is _ = refl

connective_waits : (o : Connective) (left : ℕ) {frames : List Frame} {whole : List Token} → top_rank frames < left_binds o → Stands (left_binds o) frames whole
    → Awaits (connective_frame o left ∷ frames) (whole ++ word (connective_word o) ∷ [])
connective_waits o left {frames} {whole} l y =
    let e : whole ++ word (connective_word o) ∷ [] ≡ y.pre ++ (y.last ++ word (connective_word o) ∷ []) = rw y.is (append_assoc y.pre y.last _) in
    rw e (waits (connective_frame o left) (y.last ++ word (connective_word o) ∷ []) (one_binds o) (right_low o (top_rank frames) l)
    (rw (right_is o) (fills_right o y.last y.ends)) y.awaits)

-- what is left of an atom
data NumberTail : List Token → Type 0 where
  the_number : (n k : ℕ) → NumberTail (number n k ∷ [])

data ConstantTail : List Token → Type 0 where
  a_number : (n k : ℕ) → ConstantTail (number n k ∷ [])
  after_plus : {us : List Token} → NumberTail us → ConstantTail (plus ∷ us)
  after_minus : {us : List Token} → NumberTail us → ConstantTail (minus ∷ us)

mutual
  data SignTail : List Token → Type 0 where
    a_relation : (r : Rel) {us : List Token} → ConstantTail us → SignTail (relation r ∷ us)
    a_plus : {us : List Token} → TermTail us → SignTail (plus ∷ us)
    a_minus : {us : List Token} → TermTail us → SignTail (minus ∷ us)

  data TermTail : List Token → Type 0 where
    plain_name : (w : List ℕ) {us : List Token} → is_among w reserved ≡ false → SignTail us → TermTail (word w ∷ us)
    a_coefficient : (n k : ℕ) {us : List Token} → StarTail us → TermTail (number n k ∷ us)

  data StarTail : List Token → Type 0 where
    a_star : {us : List Token} → NameTail us → StarTail (star ∷ us)

  data NameTail : List Token → Type 0 where
    the_name : (w : List ℕ) {us : List Token} → is_among w reserved ≡ false → SignTail us → NameTail (word w ∷ us)

constant_tail : {us : List Token} → ConstantTail us → (c : _) × IsConstant 0 us c
constant_tail (a_number n k) = (_, plain)
constant_tail (after_plus (the_number n k)) = (_, positive)
constant_tail (after_minus (the_number n k)) = (_, negative)

-- further terms, a relation and a constant
abbrev EndsAtom : List Token → Type 0
EndsAtom us = (ws : List Token) × (terms : List Term) × (r : Rel) × (vs : List Token) × (c : _) × AreTerms ws terms
    × IsConstant 0 vs c × (us ≡ ws ++ relation r ∷ vs)

-- a term, and then those
abbrev EndsTerm : List Token → Type 0
EndsTerm us = (ts : List Token) × (k : ℕ) × (w : List ℕ) × (rest : List Token) × IsTerm ts k w × EndsAtom rest × (us ≡ ts ++ rest)

term_splits : {us : List Token} (x : EndsTerm us) → us ≡ x.0 ++ x.5.0 ++ relation x.5.2 ∷ x.5.3
term_splits x = let y = x.5 in x.6 ∙ (ap (λ z. x.0 ++ z) y.7 ∙ sym (append_assoc x.0 y.0 (relation y.2 ∷ y.3)))

mutual
  sign_tail : {us : List Token} → SignTail us → EndsAtom us
  sign_tail (a_relation r {us} c) = let x = constant_tail c in ([], [], r, us, x.0, no_terms, x.1, refl)
  sign_tail (a_plus t) =
      let x = term_tail t in let y = x.5 in (plus ∷ x.0 ++ y.0, _, y.2, y.3, y.4, more_plus x.4 y.5, y.6, ap (λ z. plus ∷ z) (term_splits x))
  sign_tail (a_minus t) =
      let x = term_tail t in let y = x.5 in (minus ∷ x.0 ++ y.0, _, y.2, y.3, y.4, more_minus x.4 y.5, y.6, ap (λ z. minus ∷ z) (term_splits x))

  term_tail : {us : List Token} → TermTail us → EndsTerm us
  term_tail (plain_name w {us} e s) = (word w ∷ [], 1, w, us, term_name e, sign_tail s, refl)
  term_tail (a_coefficient n k s) = star_tail n k s

  star_tail : {us : List Token} (n k : ℕ) → StarTail us → EndsTerm (number n k ∷ us)
  star_tail n k (a_star s) = name_tail n k s

  name_tail : {us : List Token} (n k : ℕ) → NameTail us → EndsTerm (number n k ∷ star ∷ us)
  name_tail n k (the_name w {us} e s) = (number n k ∷ star ∷ word w ∷ [], n, w, us, scaled e, sign_tail s, refl)

-- atoms by what is left of them
term_operand : (us : List Token) → EndsTerm us → AnOperand us
term_operand us x k = let y = x.5 in rw (term_splits x) (_, compared (first x.4 y.5 y.6))

plus_operand : (us : List Token) → TermTail us → AnOperand (plus ∷ us)
plus_operand us t k = let x = term_tail t in let y = x.5 in rw (term_splits x) (_, compared (signed (more_plus x.4 y.5) y.6))

minus_operand : (us : List Token) → TermTail us → AnOperand (minus ∷ us)
minus_operand us t k = let x = term_tail t in let y = x.5 in rw (term_splits x) (_, compared (signed (more_minus x.4 y.5) y.6))

-- what stands before a place: with the rest of a bound its operator waits, and with the rest of an atom an operand ends
abbrev AfterBound : Timed → List Frame → List Token → Type 0
AfterBound of frames whole = (f : Frame) → f.rank ≡ rank_of of → Awaits (f ∷ frames) whole

abbrev AfterAtom : List Frame → List Token → Type 0
AfterAtom frames whole = Stands 5 (frames_after 5 frames) whole

abbrev Holds : Place → List Frame → List Token → Type 0
Holds at_operand frames whole = Awaits frames whole
Holds (at_bound of) frames whole = (us : List Token) → Bound of us → AfterBound of frames (whole ++ us)
Holds (at_low of x) frames whole = (us : List Token) → Low of us → AfterBound of frames (whole ++ us)
Holds (at_comma of x a j) frames whole = (us : List Token) → Comma of us → AfterBound of frames (whole ++ us)
Holds (at_high of x a j) frames whole = (us : List Token) → High of us → AfterBound of frames (whole ++ us)
Holds (at_closing of x a j b) frames whole = (us : List Token) → Closing of us → AfterBound of frames (whole ++ us)
Holds (at_term less) frames whole = (us : List Token) → TermTail us → AfterAtom frames (whole ++ us)
Holds (at_star less n) frames whole = (us : List Token) → StarTail us → AfterAtom frames (whole ++ us)
Holds (at_name less n) frames whole = (us : List Token) → NameTail us → AfterAtom frames (whole ++ us)
Holds at_sign frames whole = (us : List Token) → SignTail us → AfterAtom frames (whole ++ us)
Holds (at_constant r) frames whole = (us : List Token) → ConstantTail us → AfterAtom frames (whole ++ us)
Holds (at_number r less) frames whole = (us : List Token) → NumberTail us → AfterAtom frames (whole ++ us)
Holds at_end frames whole = Stands 5 frames whole × (top_rank frames < 5)

abbrev HoldsAt : State → List Token → Type 0
HoldsAt st whole = Holds st.place st.frames whole

same_state : (a b : State) (whole : List Token) → Some a ≡ Some b → HoldsAt a whole → HoldsAt b whole
same_state a b whole e h = let f : a ≡ b = same_Some a b e in rw (← f) h

-- one token more, and then those
shifted : {frames : List Frame} (whole : List Token) (t : Token) (us : List Token) → Stands 5 frames (whole ++ t ∷ us)
    → Stands 5 frames (whole ++ t ∷ [] ++ us)
shifted whole t us x = rw append_assoc x

shifted_awaits : {frames : List Frame} (whole : List Token) (t : Token) (us : List Token) → Awaits frames (whole ++ t ∷ us)
    → Awaits frames (whole ++ t ∷ [] ++ us)
shifted_awaits whole t us x = rw append_assoc x

a_parens : (f : List Token) → Binds 1 f → AnOperand (open_paren ∷ f ++ close_paren ∷ [])
a_parens f p k = (_, enclosed (p k).1)

-- a parenthesis ends
closes_paren : {frames : List Frame} {pre : List Token} → Awaits frames pre → top_rank frames < 1 → (us : List Token) → Binds 1 us → (st next : State)
    → st.frames ≡ frames → closed st ≡ Some next → HoldsAt next (pre ++ us ++ close_paren ∷ [])
closes_paren nothing l us b st next f e = let z = rw f at e in absurd (none-some next z)
closes_paren (waits g op p order fills w) l us b st next f e = absurd (omega (arith, p, l))
closes_paren (inside {frames = frames} {pre = pre} g i w) l us b st next f e =
    let x : pre ++ open_paren ∷ [] ++ us ++ close_paren ∷ [] ≡ pre ++ (open_paren ∷ us ++ close_paren ∷ []) = simp append_assoc in
    same_state _ next _ (rw f at e) (rw x (finish w (open_paren ∷ us ++ close_paren ∷ []) (a_parens us b)), after_top 5 frames (omega arith))

module _ (s : Scale) (st : State) (whole : List Token) where
  begins_word : Awaits st.frames whole → (w : List ℕ) (k : Kind) → OfKind k w → (next : State) → begin_word st w k ≡ Some next
      → HoldsAt next (whole ++ word w ∷ [])
  begins_word x w (a_constant b) f next e =
      same_state _ next _ e (rw f (finish x _ (λ k. (_, constant b))), after_top 5 st.frames (omega arith))
  begins_word x w a_negation f next e = same_state _ next _ e (rw f (waits negation _ (omega arith) (right_most (top_rank st.frames)) fills_not x))
  begins_word x w (a_timed of) f next e = split (is_beside of) refl
    where
      split : (b : Bool) → is_beside of ≡ b → HoldsAt next (whole ++ word w ∷ [])
      split true i = let z = rw i at e in absurd (none-some next z)
      split false i = same_state _ next _ (rw i at e) (λ us b g r. rw f (shifted_awaits whole _ us (prefix_waits of i us b g r x)))
  begins_word x w a_name g next e = same_state _ next _ e
      (λ us b. shifted whole _ us (finish x (word w ∷ us) (term_operand (word w ∷ us) (term_tail (plain_name w g b)))))
  begins_word x w _ f next e = absurd (none-some next e)

  begins : Awaits st.frames whole → (t : Token) (next : State) → begin_operand st t ≡ Some next → HoldsAt next (whole ++ t ∷ [])
  begins x (word w) next e = begins_word x w (kind w) (kind_of w) next e
  begins x (number m k) next e = same_state _ next _ e
      (λ us b. shifted whole _ us (finish x (number m k ∷ us) (term_operand (number m k ∷ us) (star_tail m k b))))
  begins x open_paren next e = same_state _ next _ e (inside _ refl x)
  begins x plus next e = same_state _ next _ e (λ us b. shifted whole _ us (finish x (plus ∷ us) (plus_operand us b)))
  begins x minus next e = same_state _ next _ e (λ us b. shifted whole _ us (finish x (minus ∷ us) (minus_operand us b)))
  begins x _ next e = absurd (none-some next e)

  closes_bound : (of : Timed) (x : Bool) (a j : ℕ) (b : Option (ℕ × ℕ)) → ((us : List Token) → Closing of us → AfterBound of st.frames (whole ++ us))
      → (t : Token) (next : State) → end_bound s of x a j b st (closing of t) ≡ Some next → HoldsAt next (whole ++ t ∷ [])
  closes_bound of x a j b h t next e = split (closing of t) refl
    where
      split : (o : Option Bool) → closing of t ≡ o → HoldsAt next (whole ++ t ∷ [])
      split None f = let z = rw f at e in absurd (none-some next z)
      split (Some y) f = same_state _ next _ (rw f at e) (h (t ∷ []) (the_end t y f) _ refl)

  infinite : (of : Timed) (x : Bool) (a j : ℕ) → ((us : List Token) → High of us → AfterBound of st.frames (whole ++ us)) → (w : List ℕ) (k : Kind)
      → OfKind k w → (next : State) → step_inf of x a j st k ≡ Some next → HoldsAt next (whole ++ word w ∷ [])
  infinite of x a j h w an_inf f next e = back (looks_back of) refl
    where
      back : (b : Bool) → looks_back of ≡ b → HoldsAt next (whole ++ word w ∷ [])
      back true g = same_state _ next _ (rw g at e) (λ us b i r. rw f (shifted_awaits whole _ us (h (word (codes "inf") ∷ us) (no_upper g b) i r)))
      back false g = let z = rw g at e in absurd (none-some next z)
  infinite of x a j h w _ f next e = absurd (none-some next e)

  names : (less : Bool) (n : ℕ) (w : List ℕ) (k : Kind) → OfKind k w
      → (is_among w reserved ≡ false → (us : List Token) → SignTail us → AfterAtom st.frames (whole ++ word w ∷ us)) → (next : State)
      → step_name less n st w k ≡ Some next → HoldsAt next (whole ++ word w ∷ [])
  names less n w a_name g x next e = same_state _ next _ e (λ us b. shifted whole _ us (x g us b))
  names less n w _ g x next e = absurd (none-some next e)

  connects : Stands 5 st.frames whole → (w : List ℕ) (k : Kind) → OfKind k w → (next : State) → after_word st k ≡ Some next
      → HoldsAt next (whole ++ word w ∷ [])
  connects x w (a_connective o) f next e =
      let y = folds x.awaits (left_binds o) 5 (left_some o) (left_few o) (right_most (top_rank st.frames)) x.last x.ends in
      same_state _ next _ e (rw (f, x.is) (connective_waits o _ (after_top (left_binds o) st.frames (left_some o)) y))
    where
      left_some : (o : Connective) → 0 < left_binds o
      left_some by_and = omega arith
      left_some _ = omega arith

      left_few : (o : Connective) → left_binds o ≤ 5
      left_few by_and = omega arith
      left_few _ = omega arith
  connects x w (a_timed of) f next e = split (is_beside of) refl
    where
      free : (b : Bool) → nat_le 4 (top_rank st.frames) ≡ b → is_beside of ≡ true → HoldsAt next (whole ++ word w ∷ [])
      free true g i = let z = rw (i, g) at e in absurd (none-some next z)
      free false g i =
          let l : top_rank st.frames < 4 = grind (arith, nat_tests, g) in
          same_state _ next _ (rw (i, g) at e) (λ us b h r.
          let y : whole ++ word w ∷ [] ++ us ≡ x.pre ++ (x.last ++ word (timed_word of) ∷ us) = rw (f, x.is) (simp append_assoc) in
          rw y (beside_waits of i x.last us x.ends b h r l x.awaits))

      split : (b : Bool) → is_beside of ≡ b → HoldsAt next (whole ++ word w ∷ [])
      split true i = free (nat_le 4 (top_rank st.frames)) refl i
      split false i = let z = rw i at e in absurd (none-some next z)
  connects x w _ f next e = absurd (none-some next e)

  parens : Stands 5 st.frames whole → (next : State) → closed (folded 1 st) ≡ Some next → HoldsAt next (whole ++ close_paren ∷ [])
  parens x next e =
      let y = folds x.awaits 1 5 (omega arith) (omega arith) (right_most (top_rank st.frames)) x.last x.ends in
      let f : whole ≡ y.pre ++ y.last = x.is ∙ y.is in
      rw f (closes_paren y.awaits (after_top 1 st.frames (omega arith)) y.last y.ends (folded 1 st) next refl e)

-- a bound begins
bounds : (s : Scale) (of : Timed) (st : State) (whole : List Token) → ((us : List Token) → Bound of us → AfterBound of st.frames (whole ++ us))
    → (t : Token) (next : State) → begin_bound of st t ≡ Some next → HoldsAt next (whole ++ t ∷ [])
bounds s of st whole h t next e = split (opening of t) refl
  where
    left : (b : Bool) → looks_back of ≡ b → opening of t ≡ None → HoldsAt next (whole ++ t ∷ [])
    left true g f =
        let i : Frame = timed_frame of 0 None true true (length st.nodes - 1) in
        begins s (opened i st) whole (rw append-nil at (h [] (left_out g) i refl)) t next (rw (f, g) at e)
    left false g f = let z = rw (f, g) at e in absurd (none-some next z)

    split : (o : Option Bool) → opening of t ≡ o → HoldsAt next (whole ++ t ∷ [])
    split None f = left (looks_back of) refl f
    split (Some x) f = same_state _ next _ (rw f at e) (λ us b g r. shifted_awaits whole t us (h (t ∷ us) (opens t x f b) g r))

-- one token more
module _ (s : Scale) (frames : List Frame) (nodes : List Node) (terms : List Term) (made : ℕ) (whole : List Token) where
  abbrev now : Place → State
  now p = record { place = p; frames = frames; nodes = nodes; terms = terms; made = made }

  step_holds : (p : Place) → Holds p frames whole → (t : Token) (next : State) → step_at s p (now p) t ≡ Some next → HoldsAt next (whole ++ t ∷ [])
  step_holds at_operand h t next e = begins s (now at_operand) whole h t next e
  step_holds (at_bound of) h t next e = bounds s of (now (at_bound of)) whole h t next e
  step_holds (at_low of x) h (number a j) next e = same_state _ next _ e (λ us b f r. shifted_awaits whole _ us (h (number a j ∷ us) (lower a j b) f r))
  step_holds (at_comma of x a j) h comma next e = same_state _ next _ e (λ us b f r. shifted_awaits whole _ us (h (comma ∷ us) (then_high b) f r))
  step_holds (at_high of x a j) h (number b k) next e =
      same_state _ next _ e (λ us c f r. shifted_awaits whole _ us (h (number b k ∷ us) (upper b k c) f r))
  step_holds (at_high of x a j) h (word w) next e = infinite s (now (at_high of x a j)) whole of x a j h w (kind w) (kind_of w) next e
  step_holds (at_closing of x a j b) h t next e = closes_bound s (now (at_closing of x a j b)) whole of x a j b h t next e
  step_holds (at_term less) h (number a j) next e = same_state _ next _ e (λ us b. shifted whole _ us (h (number a j ∷ us) (a_coefficient a j b)))
  step_holds (at_term less) h (word w) next e =
      names s (now (at_term less)) whole less 1 w (kind w) (kind_of w) (λ g us b. h (word w ∷ us) (plain_name w g b)) next e
  step_holds (at_star less n) h star next e = same_state _ next _ e (λ us b. shifted whole _ us (h (star ∷ us) (a_star b)))
  step_holds (at_name less n) h (word w) next e =
      names s (now (at_name less n)) whole less n w (kind w) (kind_of w) (λ g us b. h (word w ∷ us) (the_name w g b)) next e
  step_holds at_sign h plus next e = same_state _ next _ e (λ us b. shifted whole _ us (h (plus ∷ us) (a_plus b)))
  step_holds at_sign h minus next e = same_state _ next _ e (λ us b. shifted whole _ us (h (minus ∷ us) (a_minus b)))
  step_holds at_sign h (relation r) next e = same_state _ next _ e (λ us b. shifted whole _ us (h (relation r ∷ us) (a_relation r b)))
  step_holds (at_constant r) h (number a j) next e = same_state _ next _ e (h (number a j ∷ []) (a_number a j), after_top 5 frames (omega arith))
  step_holds (at_constant r) h plus next e = same_state _ next _ e (λ us b. shifted whole _ us (h (plus ∷ us) (after_plus b)))
  step_holds (at_constant r) h minus next e = same_state _ next _ e (λ us b. shifted whole _ us (h (minus ∷ us) (after_minus b)))
  step_holds (at_number r less) h (number a j) next e = same_state _ next _ e (h (number a j ∷ []) (the_number a j), after_top 5 frames (omega arith))
  step_holds at_end h (word w) next e = connects s (now at_end) whole h.0 w (kind w) (kind_of w) next e
  step_holds at_end h close_paren next e = parens s (now at_end) whole h.0 next e
  step_holds _ h _ next e = absurd (none-some next e)

-- what the machine has read stands before its place
run_holds : (s : Scale) (before : List Token) (st : State) → run s before ≡ Some st → HoldsAt st (reverse before)
run_holds s [] st e = same_state start st [] e nothing
run_holds s (t ∷ before) st e = split (run s before) refl (λ x f. run_holds s before x f)
  where
    split : (o : Option State) → run s before ≡ o → ((x : State) → run s before ≡ Some x → HoldsAt x (reverse before)) → HoldsAt st (reverse (t ∷ before))
    split None f g = let z = rw f at e in absurd (none-some st z)
    split (Some x) f g =
        let r : reverse (t ∷ before) ≡ reverse before ++ t ∷ [] = reverse-append (t ∷ []) before in
        rw r (step_holds s x.frames x.nodes x.terms x.made (reverse before) x.place (g x f) t st (rw f at e))

-- the tokens that finish a formula
abbrev Finished : List Token → Type 0
Finished whole = (after : List Token) × Binds 1 (whole ++ after)

finish_awaits : {frames : List Frame} {pre : List Token} → Awaits frames pre → (n : ℕ) → 1 ≤ n → right_of (top_rank frames) ≤ n → (us : List Token)
    → Binds n us → (after : List Token) × Binds 1 (pre ++ (us ++ after))
finish_awaits nothing n l h us b = ([], rw append-nil (loosened 1 n us l b))
finish_awaits (inside {frames = frames} {pre = pre} f i w) n l h us b =
    let p = by_itself (open_paren ∷ us ++ close_paren ∷ []) (a_parens us (loosened 1 n us l b)) in
    let r = finish_awaits w 5 (omega arith) (right_most (top_rank frames)) (open_paren ∷ us ++ close_paren ∷ []) p in
    let e : pre ++ open_paren ∷ [] ++ (us ++ close_paren ∷ r.0) ≡ pre ++ (open_paren ∷ us ++ close_paren ∷ [] ++ r.0) = simp append_assoc in
    (close_paren ∷ r.0, rw e r.1)
finish_awaits (waits {pre = pre} f op p order fills w) n l h us b =
    let r = finish_awaits w f.rank p order (op ++ us) (fills us (loosened (right_of f.rank) n us h b)) in
    let e : pre ++ op ++ (us ++ r.0) ≡ pre ++ (op ++ us ++ r.0) = simp append_assoc in
    (r.0, rw e r.1)

-- by `true`, by a bound, or by the rest of an atom
true_operand : AnOperand (word (codes "true") ∷ [])
true_operand k = (_, constant true)

from_awaits : {frames : List Frame} (whole us : List Token) → Awaits frames (whole ++ us) → Finished whole
from_awaits {frames} whole us x =
    let r = finish_awaits x 5 (omega arith) (right_most (top_rank frames)) (word (codes "true") ∷ []) (by_itself _ true_operand) in
    let e : whole ++ (us ++ word (codes "true") ∷ r.0) ≡ whole ++ us ++ word (codes "true") ∷ r.0 = simp append_assoc in
    (us ++ word (codes "true") ∷ r.0, rw e r.1)

from_stands : {frames : List Frame} (whole us : List Token) → Stands 5 frames (whole ++ us) → Finished whole
from_stands {frames} whole us x =
    let r = finish_awaits x.awaits 5 (omega arith) (right_most (top_rank frames)) x.last x.ends in
    let e : whole ++ (us ++ r.0) ≡ x.pre ++ (x.last ++ r.0) = sym (append_assoc whole us r.0) ∙ (ap (λ z. z ++ r.0) x.is ∙ append_assoc x.pre x.last r.0) in
    (us ++ r.0, rw e r.1)

some_signs : SignTail (relation AtLeast ∷ number 0 0 ∷ [])
some_signs = a_relation AtLeast (a_number 0 0)

some_end : (of : Timed) → Closing of (close_bracket ∷ [])
some_end of = the_end close_bracket true refl

some_frame : Timed → Frame
some_frame of = record { rank = rank_of of; node = λ last. negation.node last }

finished : (frames : List Frame) (whole : List Token) (p : Place) → Holds p frames whole → Finished whole
unfolding some_frame
finished frames whole at_operand x = from_awaits {frames = frames} whole [] (rw append-nil x)
finished frames whole (at_bound of) x =
    from_awaits whole _ (x _ (opens open_bracket true refl (lower 0 0 (then_high (upper 0 0 (some_end of))))) (some_frame of) refl)
finished frames whole (at_low of i) x = from_awaits whole _ (x _ (lower 0 0 (then_high (upper 0 0 (some_end of)))) (some_frame of) refl)
finished frames whole (at_comma of i a j) x = from_awaits whole _ (x _ (then_high (upper 0 0 (some_end of))) (some_frame of) refl)
finished frames whole (at_high of i a j) x = from_awaits whole _ (x _ (upper 0 0 (some_end of)) (some_frame of) refl)
finished frames whole (at_closing of i a j b) x = from_awaits whole _ (x _ (some_end of) (some_frame of) refl)
finished frames whole (at_term less) x = from_stands whole _ (x _ (plain_name (codes "x") refl some_signs))
finished frames whole (at_star less n) x = from_stands whole _ (x _ (a_star (the_name (codes "x") refl some_signs)))
finished frames whole (at_name less n) x = from_stands whole _ (x _ (the_name (codes "x") refl some_signs))
finished frames whole at_sign x = from_stands whole _ (x _ some_signs)
finished frames whole (at_constant r) x = from_stands whole _ (x _ (a_number 0 0))
finished frames whole (at_number r less) x = from_stands whole _ (x _ (the_number 0 0))
finished frames whole at_end x = from_stands {frames = frames} whole [] (rw append-nil x.0)

-- what the machine has read begins a formula
pub run_begins : (s : Scale) (before : List Token) (st : State) → run s before ≡ Some st → MayBegin before
run_begins s before st e =
    let r = finished st.frames (reverse before) st.place (run_holds s before st e) in (r.0, (r.1 0).0, as_formula (r.1 0).1)

-- what stands outside parentheses is whole
whole_awaits : {frames : List Frame} {pre : List Token} → Awaits frames pre → has_paren (pending_of (ranks frames)) ≡ false → (n : ℕ) → 1 ≤ n
    → right_of (top_rank frames) ≤ n → (us : List Token) → Binds n us → Binds 1 (pre ++ us)
whole_awaits nothing h n l i us b = loosened 1 n us l b
whole_awaits (inside f e w) h n l i us b = let x = rw e at h in absurd (cc)
whole_awaits (waits {frames = frames} {pre = pre} f op p order fills w) h n l i us b =
    let g : has_paren (pending_of (ranks frames)) ≡ false = sym (no_paren f.rank (pending_of (ranks frames)) p) ∙ h in
    rw (append_assoc pre op us) (whole_awaits w g f.rank p order (op ++ us) (fills us (loosened (right_of f.rank) n us i b)))

may_end : (frames : List Frame) (whole : List Token) (p : Place) → Holds p frames whole → ends_at p (ranks frames) ≡ true → Binds 1 whole
may_end frames whole at_end x e = split (has_paren (pending_of (ranks frames))) refl
  where
    split : (b : Bool) → has_paren (pending_of (ranks frames)) ≡ b → Binds 1 whole
    split true f = let z = rw f at e in absurd (cc)
    split false f = rw x.0.is (whole_awaits x.0.awaits f 5 (omega arith) (right_most (top_rank frames)) x.0.last x.0.ends)
may_end frames whole _ x e = absurd (cc)

-- it is a formula where an operand has ended outside parentheses
pub run_ends : (s : Scale) (before : List Token) (st : State) → run s before ≡ Some st → ends_at st.place (ranks st.frames) ≡ true → MayEnd before
run_ends s before st e f = let d = may_end st.frames (reverse before) st.place (run_holds s before st e) f 0 in (d.0, as_formula d.1)

-- what the machine goes on with begins a formula too
pub step_begins : (s : Scale) (before : List Token) (st next : State) (t : Token) → run s before ≡ Some st → step s st t ≡ Some next → MayBegin (t ∷ before)
step_begins s before st next t e f = run_begins s (t ∷ before) next (ap (λ o. step_from s o t) e ∙ f)

-- what waits is in order, once the operands that may end have ended
abbrev pub Tidy : List Frame → Type 0
Tidy frames = (pre : List Token) × Awaits frames pre

-- so it is at each place
abbrev pub TidyAt : Place → List Frame → Type 0
TidyAt (at_bound of) frames = (f : Frame) → f.rank ≡ rank_of of → Tidy (frames_after 5 (f ∷ frames))
TidyAt (at_low of x) frames = Unit {0}
TidyAt (at_comma of x a j) frames = Unit {0}
TidyAt (at_high of x a j) frames = Unit {0}
TidyAt (at_closing of x a j b) frames = Unit {0}
TidyAt at_end frames = Tidy frames × (top_rank frames < 5)
TidyAt _ frames = Tidy (frames_after 5 frames)

-- after an operand
pub tidy_after : {frames : List Frame} → Tidy frames → Tidy (frames_after 5 frames)
tidy_after (pre, w) = let x = finish w (word (codes "true") ∷ []) true_operand in (x.pre, x.awaits)

tidy_at : (frames : List Frame) (whole : List Token) (p : Place) → Holds p frames whole → TidyAt p frames
tidy_at frames whole at_operand x = tidy_after (whole, x)
tidy_at frames whole (at_bound of) x =
    λ f r. tidy_after (_, x _ (opens open_bracket true refl (lower 0 0 (then_high (upper 0 0 (some_end of))))) f r)
tidy_at frames whole (at_low of i) x = tt
tidy_at frames whole (at_comma of i a j) x = tt
tidy_at frames whole (at_high of i a j) x = tt
tidy_at frames whole (at_closing of i a j b) x = tt
tidy_at frames whole (at_term less) x = let y = x _ (plain_name (codes "x") refl some_signs) in (y.pre, y.awaits)
tidy_at frames whole (at_star less n) x = let y = x _ (a_star (the_name (codes "x") refl some_signs)) in (y.pre, y.awaits)
tidy_at frames whole (at_name less n) x = let y = x _ (the_name (codes "x") refl some_signs) in (y.pre, y.awaits)
tidy_at frames whole at_sign x = let y = x _ some_signs in (y.pre, y.awaits)
tidy_at frames whole (at_constant r) x = let y = x _ (a_number 0 0) in (y.pre, y.awaits)
tidy_at frames whole (at_number r less) x = let y = x _ (the_number 0 0) in (y.pre, y.awaits)
tidy_at frames whole at_end x = ((x.0.pre, x.0.awaits), x.1)

-- after what the machine has read
pub run_tidy : (s : Scale) (before : List Token) (st : State) → run s before ≡ Some st → TidyAt st.place st.frames
run_tidy s before st e = tidy_at st.frames (reverse before) st.place (run_holds s before st e)
