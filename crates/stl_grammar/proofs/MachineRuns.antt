-- The machine reads every formula, and keeps its nodes.
use Rattle.std.proofs.Common.{◌≡◌, ℕ, zero, suc, ◌+◌, ◌-◌, ◌<◌, ◌≤◌, List, [], ◌∷◌, ◌++◌, length, refl, ap, sym, ◌∙◌}
use Rattle.std.proofs.Common.{Bool, true, false, arith, append_assoc, length-append, max}
use Rattle.std.specs.Prelude.{codes, reverse, nat_le, ℤ, Option, Some, None}
use Rattle.std.proofs.lemmas.List.{append-nil, reverse-append}
use Rattle.std.proofs.lemmas.Bool.Decides.{nat_tests}
use Rattle.stl_syntax.specs.Characters.{ticks}
use Rattle.stl_syntax.specs.declared.scale.Scale.{Scale}
use Rattle.stl_syntax.specs.declared.atom.Atom.{Atom}
use Rattle.stl_syntax.specs.declared.atom.Term.{Term}
use Rattle.stl_syntax.specs.declared.rel.Rel.{Rel}
use Rattle.stl_syntax.specs.declared.node.Node.{Node}
use Rattle.stl_syntax.specs.declared.node.Node.TheVariants.{Const, Atom as Leaf}
use Rattle.stl_grammar.specs.Grammar.{top, Token, word, number, relation, close_paren, open_bracket, close_bracket, comma}
use Rattle.stl_grammar.specs.Grammar.{IsConstant, plain, positive, negative, IsTerm, scaled, AreTerms, more_plus, more_minus}
use Rattle.stl_grammar.specs.Grammar.{IsAtom, first, signed as signed_atom, IsFormula, name as term_name, none as no_terms}
use Rattle.stl_grammar.specs.Machine.{Kind, kind, a_timed, Place, at_operand, at_bound, at_low}
use Rattle.stl_grammar.specs.Machine.{at_high, at_closing, at_term, at_sign, at_constant, at_end, Frame, paren, negation, State, start, top_rank}
use Rattle.stl_grammar.specs.Machine.{frames_after, nodes_after, folded, signed, timed_frame, connective_frame, begin_word, step, step_from, run}
use Rattle.stl_grammar.specs.Machine.{ranks, with_rank, pending_of, ends_at}
use Rattle.stl_grammar.specs.FormulaRefusals.{Pending, has_paren, MayBegin, MayEnd}
use Rattle.std.proofs.lemmas.Option.{same_Some}
use Rattle.stl_grammar.proofs.Rescaled.{rescaled}
use Rattle.stl_grammar.specs.Operators.{is_beside, looks_back}
use Rattle.stl_grammar.specs.declared.operator.Timed.{Timed}
use Rattle.stl_grammar.specs.declared.operator.Timed.TheVariants.{Until as TUntil, Since as TSince}
use Rattle.stl_grammar.proofs.Derivations.{Connective, by_and, by_or, by_implies, connective_word, connective_node, binds, left_binds, right_binds}
use Rattle.stl_grammar.proofs.Derivations.{timed_word, timed_node, constant_word, Opens, opens_in, opens_out, Closes, closes_in, closes_out}
use Rattle.stl_grammar.proofs.Derivations.{Bounded, left_out, within, endless, Operand, negated, prefixed, constant, enclosed, compared}
use Rattle.stl_grammar.proofs.Derivations.{Derived, joined, beside, alone, formula_derived, is_bracket, operand_begins}
use Rattle.stl_grammar.proofs.WordKinds.{name_kind, timed_kind, connective_kind, constant_kind}

-- what binds more tightly than a parenthesis is none
pub no_paren : (r : ℕ) (pending : List Pending) → 0 < r → has_paren (with_rank r pending) ≡ has_paren pending
no_paren zero pending l = absurd (omega (arith, l))
no_paren (suc zero) pending l = refl
no_paren (suc (suc r)) pending l = split (nat_le 5 (suc (suc r))) refl
  where
    split : (b : Bool) → nat_le 5 (suc (suc r)) ≡ b → has_paren (with_rank (suc (suc r)) pending) ≡ has_paren pending
    split true e = rw e refl
    split false e = rw e refl

-- frames that bind less tightly stay
pub frames_stay : (r : ℕ) (frames : List Frame) → top_rank frames < r → frames_after r frames ≡ frames
frames_stay r [] l = refl
frames_stay r (f ∷ frames) l = let e : nat_le r f.rank ≡ false = grind (arith, nat_tests, l) in rw e refl

nodes_stay : (r : ℕ) (frames : List Frame) (nodes : List Node) → top_rank frames < r → nodes_after r frames nodes ≡ nodes
nodes_stay r [] nodes l = refl
nodes_stay r (f ∷ frames) nodes l = let e : nat_le r f.rank ≡ false = grind (arith, nat_tests, l) in rw e refl

-- to end what binds more tightly first changes nothing
frames_twice : (r q : ℕ) (frames : List Frame) → r ≤ q → frames_after r (frames_after q frames) ≡ frames_after r frames
frames_twice r q [] l = refl
frames_twice r q (f ∷ frames) l = split (nat_le q f.rank) refl (frames_twice r q frames l)
  where
    split : (b : Bool) → nat_le q f.rank ≡ b → frames_after r (frames_after q frames) ≡ frames_after r frames
        → frames_after r (frames_after q (f ∷ frames)) ≡ frames_after r (f ∷ frames)
    split true e h = let g : nat_le r f.rank ≡ true = grind (arith, nat_tests, l, e) in rw (e, g) h
    split false e h = rw e refl

nodes_twice : (r q : ℕ) (frames : List Frame) (nodes : List Node) → r ≤ q
    → nodes_after r (frames_after q frames) (nodes_after q frames nodes) ≡ nodes_after r frames nodes
nodes_twice r q [] nodes l = refl
nodes_twice r q (f ∷ frames) nodes l = split (nat_le q f.rank) refl (λ x. nodes_twice r q frames x l)
  where
    split : (b : Bool) → nat_le q f.rank ≡ b
        → ((x : List Node) → nodes_after r (frames_after q frames) (nodes_after q frames x) ≡ nodes_after r frames x)
        → nodes_after r (frames_after q (f ∷ frames)) (nodes_after q (f ∷ frames) nodes) ≡ nodes_after r (f ∷ frames) nodes
    split true e h = let g : nat_le r f.rank ≡ true = grind (arith, nat_tests, l, e) in rw (e, g) (h (nodes ++ f.node (length nodes - 1) ∷ []))
    split false e h = rw e refl

-- what binds as tightly as the left side is ended before a connective, and what stands on the right binds more tightly
pub record HasRoom (o : Connective) : Type 0 where
  -- the left side is no `implies`
  pub two : 2 ≤ left_binds o
  -- it binds as tightly as the connective
  pub left : binds o ≤ left_binds o
  -- less tightly than an operand
  pub few : left_binds o ≤ 5
  -- the right side may not begin before the connective
  pub right : binds o < max 2 (right_binds o)
  -- it binds as tightly
  pub more : binds o ≤ right_binds o
  -- no more tightly than an operand
  pub last : right_binds o ≤ 5

-- each connective has
pub has_room : (o : Connective) → HasRoom o
has_room by_and = record { two = omega arith; left = omega arith; few = omega arith; right = omega arith; more = omega arith; last = omega arith }
has_room by_or = record { two = omega arith; left = omega arith; few = omega arith; right = omega arith; more = omega arith; last = omega arith }
has_room by_implies = record { two = omega arith; left = omega arith; few = omega arith; right = omega arith; more = omega arith; last = omega arith }

-- a state by its parts, in an atom and outside one
abbrev pub at : Place → List Frame → List Node → List Term → ℕ → Option State
at place frames nodes terms made = Some (record { place = place; frames = frames; nodes = nodes; terms = terms; made = made })

abbrev pub st : Place → List Frame → List Node → ℕ → Option State
st place frames nodes made = at place frames nodes [] made

-- after an operand, with which the one-operand operators before it end
abbrev pub ended : List Frame → List Node → ℕ → Option State
ended frames nodes made = Some (folded 5 (record { place = at_end; frames = frames; nodes = nodes; terms = []; made = made }))

-- to the same nodes, in the same number
ended_is : (frames : List Frame) (ns ms : List Node) (n m : ℕ) → ns ≡ ms → n ≡ m → ended frames ns n ≡ ended frames ms m
ended_is frames ns ms n m e f = ap (λ z. ended frames z n) e ∙ ap (λ z. ended frames ms z) f

-- a whole operand has ended, in a state that comes to these frames and nodes where what binds at least as tightly as r is ended
pub record Ended (r : ℕ) (q : State) (frames : List Frame) (nodes : List Node) (made : ℕ) : Type 0 where
  -- at its place
  pub place : q.place ≡ at_end
  -- outside an atom
  pub terms : q.terms ≡ []
  -- the frames are these
  pub frame : frames_after r q.frames ≡ frames_after r frames
  -- and so are the nodes
  pub node : nodes_after r q.frames q.nodes ≡ nodes_after r frames nodes
  -- so many were begun
  pub count : q.made ≡ made

-- so it does where more is ended
ended_less : (r p : ℕ) (q : State) (frames : List Frame) (nodes : List Node) (made : ℕ) → r ≤ p → Ended p q frames nodes made → Ended r q frames nodes made
ended_less r p q frames nodes made l e = record {
  place = e.place;
  terms = e.terms;
  frame = sym (frames_twice r p q.frames l) ∙ (ap (λ z. frames_after r z) e.frame ∙ frames_twice r p frames l);
  node = sym (nodes_twice r p q.frames q.nodes l)
      ∙ (ap (λ z. nodes_after r z (nodes_after p q.frames q.nodes)) e.frame
      ∙ (ap (λ z. nodes_after r (frames_after p frames) z) e.node ∙ nodes_twice r p frames nodes l));
  count = e.count;
}

-- with it ends the operator before it
ended_pop : (r : ℕ) (q : State) (f : Frame) (frames : List Frame) (nodes : List Node) (made : ℕ) → r ≤ f.rank → Ended r q (f ∷ frames) nodes made
    → Ended r q frames (nodes ++ f.node (length nodes - 1) ∷ []) made
ended_pop r q f frames nodes made l e =
    let g : nat_le r f.rank ≡ true = grind (arith, nat_tests, l) in
    record { place = e.place; terms = e.terms; frame = e.frame ∙ rw g refl; node = e.node ∙ rw g refl; count = e.count }

-- where the last node of some stands that begin at place k
last_is : (k : ℕ) (nodes ns : List Node) → length nodes ≡ k → length (nodes ++ ns) - 1 ≡ top k ns
last_is k nodes ns e = omega (arith, e, length-append nodes ns)

-- and how many there are
pub count_is : (k : ℕ) (nodes ns : List Node) → length nodes ≡ k → length (nodes ++ ns) ≡ k + length ns
count_is k nodes ns e = omega (arith, e, length-append nodes ns)

-- a one-operand operator ends with its operand
one_ends : (k : ℕ) (ns nodes : List Node) (frames : List Frame) (made : ℕ) (f : Frame) (n : Node) → length nodes ≡ k
    → f.rank ≡ 5 → f.node (top k ns) ≡ n
    → ended (f ∷ frames) (nodes ++ ns) (suc made + length ns) ≡ ended frames (nodes ++ (ns ++ n ∷ [])) (made + length (ns ++ n ∷ []))
one_ends k ns nodes frames made f n e r h =
    let l : nat_le 5 f.rank ≡ true = rw r refl in
    let d : f.node (length (nodes ++ ns) - 1) ≡ n = ap (λ z. f.node z) (last_is k nodes ns e) ∙ h in
    let x : ended (f ∷ frames) (nodes ++ ns) (suc made + length ns)
    ≡ ended frames (nodes ++ ns ++ f.node (length (nodes ++ ns) - 1) ∷ []) (suc made + length ns) = rw l refl in
    x ∙ ended_is frames _ _ _ _ (append_assoc nodes ns _ ∙ ap (λ z. nodes ++ (ns ++ z ∷ [])) d) (omega (arith, length-append ns (n ∷ [])))

-- the order of a bound left out: an operator that looks back goes on to its operand at a token that is no bracket
same_begin : (place : Place) (frames : List Frame) (nodes : List Node) (made : ℕ) (w : List ℕ) (k : Kind)
    → begin_word (record { place = place; frames = frames; nodes = nodes; terms = []; made = made }) w k
    ≡ begin_word (record { place = at_operand; frames = frames; nodes = nodes; terms = []; made = made }) w k
same_begin place frames nodes made w (a_timed of) = refl
same_begin place frames nodes made w _ = refl

-- before an operand that is to be the last of such an operator
abbrev pub timed_st : Timed → ℕ → Option ℕ → Bool → Bool → List Frame → List Node → ℕ → Option State
timed_st of a b x y frames nodes made = st at_operand (timed_frame of a b x y (length nodes - 1) ∷ frames) nodes made

module _ (s : Scale) where
  -- the state after tokens, the first one first
  abbrev pub go : Option State → List Token → Option State
  go o [] = o
  go o (t ∷ ts) = go (step_from s o t) ts

  -- going over joined lists
  pub go_append : (o : Option State) (ts us : List Token) → go o (ts ++ us) ≡ go (go o ts) us
  go_append o [] us = refl
  go_append o (t ∷ ts) us = go_append (step_from s o t) ts us

  -- in two parts
  pub go_then : (o m r : Option State) (ts us : List Token) → go o ts ≡ m → go m us ≡ r → go o (ts ++ us) ≡ r
  go_then o m r ts us e f = go_append o ts us ∙ (ap (λ x. go x us) e ∙ f)

  -- both readings of a list of tokens agree
  pub run_go : (before : List Token) → run s before ≡ go (Some start) (reverse before)
  run_go [] = refl
  run_go (t ∷ before) =
      let e : reverse (t ∷ before) ≡ reverse before ++ t ∷ [] = reverse-append (t ∷ []) before in
      rw (e, go_append (Some start) (reverse before) (t ∷ []), ← run_go before) refl

  -- past the bound of an operator that looks back, where it is left out
  pub skips : (of : Timed) → looks_back of ≡ true → (frames : List Frame) (nodes : List Node) (made : ℕ) (t : Token) → is_bracket t ≡ false
      → step_from s (st (at_bound of) frames nodes made) t ≡ step_from s (timed_st of 0 None true true frames nodes made) t
  skips of e frames nodes made open_bracket f = absurd (cc)
  skips of e frames nodes made close_bracket f = absurd (cc)
  skips of e frames nodes made (word w) f =
      rw e (same_begin (at_bound of) (timed_frame of 0 None true true (length nodes - 1) ∷ frames) nodes made w (kind w))
  skips of e frames nodes made _ f = rw e refl

  -- the state after the bracket that opens a bound
  pub opens_step : (of : Timed) {t : Token} {x : Bool} → Opens of t x → (frames : List Frame) (nodes : List Node) (made : ℕ)
      → step_from s (st (at_bound of) frames nodes made) t ≡ st (at_low of x) frames nodes made
  opens_step of opens_in frames nodes made = refl
  opens_step of (opens_out e) frames nodes made = rw e refl

  -- after the bracket that closes it
  pub closes_step : (of : Timed) {t : Token} {y : Bool} (x : Bool) (a j : ℕ) → Closes of t y → (b k : ℕ)
      → (frames : List Frame) (nodes : List Node) (made : ℕ)
      → step_from s (st (at_closing of x a j (Some (b, k))) frames nodes made) t
      ≡ timed_st of (ticks s.time a j) (Some (ticks s.time b k)) x y frames nodes made
  closes_step of x a j closes_in b k frames nodes made = refl
  closes_step of x a j (closes_out e) b k frames nodes made = rw e refl

  -- which it does after `inf` too
  pub ends_step : (of : Timed) {t : Token} {y : Bool} (x : Bool) (a j : ℕ) → Closes of t y → (frames : List Frame) (nodes : List Node) (made : ℕ)
      → step_from s (st (at_closing of x a j None) frames nodes made) t ≡ timed_st of (ticks s.time a j) None x true frames nodes made
  ends_step of x a j closes_in frames nodes made = refl
  ends_step of x a j (closes_out e) frames nodes made = rw e refl

  -- and after `inf` in place of an upper end
  pub inf_step : (of : Timed) → looks_back of ≡ true → (x : Bool) (a j : ℕ) (frames : List Frame) (nodes : List Node) (made : ℕ)
      → step_from s (st (at_high of x a j) frames nodes made) (word (codes "inf")) ≡ st (at_closing of x a j None) frames nodes made
  unfolding kind
  inf_step of e x a j frames nodes made = rw e refl

  -- a bound before an operand leaves its operator
  pub bound_runs : {a : ℕ} {b : Option ℕ} {us ts : List Token} {x y : Bool} {z : Scale} {k : ℕ} {ns : List Node} (of : Timed)
      → Bounded s.time of us a b x y → Operand z k ts ns
      → (frames : List Frame) (nodes : List Node) (made : ℕ)
      → go (st (at_bound of) frames nodes made) (us ++ ts) ≡ go (timed_st of a b x y frames nodes made) ts
  bound_runs of (left_out e) p frames nodes made =
      let f = operand_begins p in rw f.is (ap (λ z. go z f.rest) (skips of e frames nodes made f.head f.other))
  bound_runs {ts = ts} of (within {a = a} {j} {b} {k} {u = u} {x} p q) r frames nodes made =
      ap (λ z. go z (number a j ∷ comma ∷ number b k ∷ u ∷ ts)) (opens_step of p frames nodes made)
      ∙ ap (λ z. go z ts) (closes_step of x a j q b k frames nodes made)
  bound_runs {ts = ts} of (endless {a = a} {j} {u = u} {x} e p q) r frames nodes made =
      ap (λ z. go z (number a j ∷ comma ∷ word (codes "inf") ∷ u ∷ ts)) (opens_step of p frames nodes made)
      ∙ (ap (λ z. go z (u ∷ ts)) (inf_step of e x a j frames nodes made) ∙ ap (λ z. go z ts) (ends_step of x a j q frames nodes made))

  -- a term, after its sign
  abbrev pub term_of : Bool → ℕ → List ℕ → Term
  term_of less k w = record { coef = signed less k; name = w }

  -- its tokens lead to the place after it
  pub term_runs : {ts : List Token} {k : ℕ} {w : List ℕ} → IsTerm ts k w
      → (less : Bool) (frames : List Frame) (nodes : List Node) (terms : List Term) (made : ℕ)
      → go (at (at_term less) frames nodes terms made) ts ≡ at at_sign frames nodes (terms ++ term_of less k w ∷ []) made
  term_runs (term_name {w = w} e) less frames nodes terms made = rw (name_kind w e) refl
  term_runs (scaled {w = w} e) less frames nodes terms made = rw (name_kind w e) refl

  -- the first term of an atom, without a sign
  pub first_runs : {ts : List Token} {k : ℕ} {w : List ℕ} → IsTerm ts k w → (frames : List Frame) (nodes : List Node) (made : ℕ)
      → go (st at_operand frames nodes made) ts ≡ at at_sign frames nodes (term_of false k w ∷ []) (suc made)
  first_runs (term_name {w = w} e) frames nodes made = rw (name_kind w e) refl
  first_runs (scaled {w = w} e) frames nodes made = rw (name_kind w e) refl

  -- further terms, up to the relation
  pub terms_run : {us : List Token} {more : List Term} → AreTerms us more → (frames : List Frame) (nodes : List Node) (terms : List Term) (made : ℕ)
      → go (at at_sign frames nodes terms made) us ≡ at at_sign frames nodes (terms ++ more) made
  terms_run no_terms frames nodes terms made = rw (append-nil terms) refl
  terms_run (more_plus {k = k} {w = w} {ts = ts} {us = us} {terms = more} t u) frames nodes terms made =
      go_then _ _ _ ts us (term_runs t false frames nodes terms made)
      (terms_run u frames nodes (terms ++ term_of false k w ∷ []) made ∙ ap (λ z. at at_sign frames nodes z made) (append_assoc terms _ more))
  terms_run (more_minus {k = k} {w = w} {ts = ts} {us = us} {terms = more} t u) frames nodes terms made =
      go_then _ _ _ ts us (term_runs t true frames nodes terms made)
      (terms_run u frames nodes (terms ++ term_of true k w ∷ []) made ∙ ap (λ z. at at_sign frames nodes z made) (append_assoc terms _ more))

  -- all terms of an atom whose first one has a sign
  pub signed_runs : {us : List Token} {t : Term} {more : List Term} → AreTerms us (t ∷ more) → (frames : List Frame) (nodes : List Node) (made : ℕ)
      → go (st at_operand frames nodes made) us ≡ at at_sign frames nodes (t ∷ more) (suc made)
  signed_runs (more_plus {k = k} {w = w} {ts = ts} {us = us} t u) frames nodes made =
      go_then _ _ _ ts us (term_runs t false frames nodes [] (suc made)) (terms_run u frames nodes (term_of false k w ∷ []) (suc made))
  signed_runs (more_minus {k = k} {w = w} {ts = ts} {us = us} t u) frames nodes made =
      go_then _ _ _ ts us (term_runs t true frames nodes [] (suc made)) (terms_run u frames nodes (term_of true k w ∷ []) (suc made))

  -- a constant ends its atom
  pub constant_runs : {vs : List Token} {c : ℤ} → IsConstant s.value vs c → (r : Rel) (frames : List Frame) (nodes : List Node) (terms : List Term) (made : ℕ)
      → go (at (at_constant r) frames nodes terms made) vs ≡ ended frames (nodes ++ Leaf (record { terms = terms; rel = r; limit = c }) ∷ []) made
  constant_runs plain r frames nodes terms made = refl
  constant_runs positive r frames nodes terms made = refl
  constant_runs negative r frames nodes terms made = refl

  -- an atom
  pub atom_runs : {ts : List Token} {a : Atom} → IsAtom s.value ts a → (frames : List Frame) (nodes : List Node) (made : ℕ)
      → go (st at_operand frames nodes made) ts ≡ ended frames (nodes ++ Leaf a ∷ []) (suc made)
  atom_runs (first {k = k} {w = w} {ts = ts} {us = us} {vs = vs} {terms = more} {rel = rel} t u c) frames nodes made =
      go_then _ _ _ (ts ++ us) (relation rel ∷ vs)
      (go_then _ _ _ ts us (first_runs t frames nodes made) (terms_run u frames nodes (term_of false k w ∷ []) (suc made)))
      (constant_runs c rel frames nodes (term_of false k w ∷ more) (suc made))
  atom_runs (signed_atom {us = us} {vs = vs} {terms = more} {rel = rel} {t = t} u c) frames nodes made =
      go_then _ _ _ us (relation rel ∷ vs) (signed_runs u frames nodes made) (constant_runs c rel frames nodes (t ∷ more) (suc made))

  -- after a word of the table: a constant, an operator with a bound before an operand or beside one, and a connective
  pub constant_steps : (b : Bool) (frames : List Frame) (nodes : List Node) (made : ℕ)
      → step_from s (st at_operand frames nodes made) (word (constant_word b)) ≡ ended frames (nodes ++ Const b ∷ []) (suc made)
  constant_steps b frames nodes made = rw (constant_kind b) refl

  -- before an operand
  pub before_steps : (of : Timed) → is_beside of ≡ false → (frames : List Frame) (nodes : List Node) (made : ℕ)
      → step_from s (st at_operand frames nodes made) (word (timed_word of)) ≡ st (at_bound of) frames nodes (suc made)
  before_steps of e frames nodes made = rw (timed_kind of, e) refl

  -- beside one
  pub beside_steps : (of : Timed) → is_beside of ≡ true → (frames : List Frame) (nodes : List Node) (made : ℕ) → top_rank frames < 4
      → step_from s (st at_end frames nodes made) (word (timed_word of)) ≡ st (at_bound of) frames nodes (suc made)
  beside_steps of e frames nodes made l = let f : nat_le 4 (top_rank frames) ≡ false = grind (arith, nat_tests, l) in rw (timed_kind of, e, f) refl

  -- after its left side a connective waits for the right one
  pub connective_steps : (o : Connective) (q : State) (frames : List Frame) (nodes : List Node) (made : ℕ) → top_rank frames < left_binds o
      → Ended (left_binds o) q frames nodes made
      → step_from s (Some q) (word (connective_word o)) ≡ st at_operand (connective_frame o (length nodes - 1) ∷ frames) nodes (suc made)
  connective_steps o q frames nodes made l e =
      let f = e.frame ∙ frames_stay (left_binds o) frames l in
      let n = e.node ∙ nodes_stay (left_binds o) frames nodes l in
      rw (e.place, connective_kind o, e.terms, f, n, e.count) refl

  before_node : (of : Timed) (a : ℕ) (b : Option ℕ) (x y : Bool) (p q : ℕ) → is_beside of ≡ false → timed_node of a b x y p q ≡ timed_node of a b x y 0 q
  before_node TUntil a b x y p q e = absurd (cc)
  before_node TSince a b x y p q e = absurd (cc)
  before_node _ a b x y p q e = refl

  -- an operator ends with its right operand
  two_ends : (k r : ℕ) (ns ms nodes : List Node) (frames : List Frame) (made : ℕ) (q : State) (f : Frame) (n : Node) → length nodes ≡ k
      → f.node (top (k + length ns) ms) ≡ n → r ≤ f.rank → Ended r q (f ∷ frames) (nodes ++ ns ++ ms) (suc (made + length ns) + length ms)
      → Ended r q frames (nodes ++ (ns ++ ms ++ n ∷ [])) (made + length (ns ++ ms ++ n ∷ []))
  two_ends k r ns ms nodes frames made q f n e g l h =
      let x = last_is (k + length ns) (nodes ++ ns) ms (count_is k nodes ns e) in
      let y : nodes ++ ns ++ ms ++ f.node (length (nodes ++ ns ++ ms) - 1) ∷ [] ≡ nodes ++ (ns ++ ms ++ n ∷ []) =
      rw (ap (λ z. f.node z) x ∙ g) (simp append_assoc) in
      let c : suc (made + length ns) + length ms ≡ made + length (ns ++ ms ++ n ∷ []) =
      omega (arith, length-append (ns ++ ms) (n ∷ []), length-append ns ms) in
      rw (y, c) at (ended_pop r q f frames (nodes ++ ns ++ ms) _ l h)

  -- after an operand the state is of its place, where no one-operand operator waits
  pub operand_state : (frames : List Frame) (nodes : List Node) (made : ℕ) → top_rank frames < 5 → ended frames nodes made ≡ st at_end frames nodes made
  operand_state frames nodes made l = rw (frames_stay 5 frames l, nodes_stay 5 frames nodes l) refl

  operand_ended : (r : ℕ) (frames : List Frame) (nodes : List Node) (made : ℕ) → r ≤ 5
      → Ended r (folded 5 (record { place = at_end; frames = frames; nodes = nodes; terms = []; made = made })) frames nodes made
  operand_ended r frames nodes made l =
      record { place = refl; terms = refl; frame = frames_twice r 5 frames l; node = nodes_twice r 5 frames nodes l; count = refl }

  closes : (q : State) (frames : List Frame) (nodes : List Node) (made : ℕ) → Ended 1 q (paren ∷ frames) nodes made
      → step_from s (Some q) close_paren ≡ ended frames nodes made
  closes q frames nodes made e = rw (e.place, e.terms, e.frame, e.node, e.count) refl

  -- what binds at least as tightly as r, after frames that bind less tightly, leaves its nodes
  abbrev pub Runs : ℕ → List Token → List Node → List Frame → List Node → ℕ → Type 0
  Runs r ts ns frames nodes made =
      (q : State) × (go (st at_operand frames nodes made) ts ≡ Some q) × Ended r q frames (nodes ++ ns) (made + length ns)

  negation_steps : (frames : List Frame) (nodes : List Node) (made : ℕ)
      → step_from s (st at_operand frames nodes made) (word (codes "not")) ≡ st at_operand (negation ∷ frames) nodes (suc made)
  unfolding kind
  negation_steps frames nodes made = refl

  mutual
    -- what binds at least as tightly as r
    pub derived_runs : {r k : ℕ} {ts : List Token} {ns : List Node} → Derived s r k ts ns → r ≤ 5
        → (frames : List Frame) (nodes : List Node) (made : ℕ) → top_rank frames < max 2 r → length nodes ≡ k → Runs r ts ns frames nodes made
    derived_runs {r} {k} (joined o {ts = ts} {us} {ns} {ms} i d d') five frames nodes made l e =
        let room = has_room o in
        let m : top_rank frames < left_binds o = omega (arith, room.left, room.two) in
        let (q, g, h) = derived_runs d room.few frames nodes made (omega (arith, m)) e in
        let f : Frame = connective_frame o (length (nodes ++ ns) - 1) in
        let c : length (nodes ++ ns) ≡ k + length ns = count_is k nodes ns e in
        let (q', g', h') = derived_runs d' room.last (f ∷ frames) (nodes ++ ns) (suc (made + length ns)) room.right c in (
          q',
          go_then (st at_operand frames nodes made) (Some q) (Some q') ts (word (connective_word o) ∷ us) g
              (ap (λ z. go z us) (connective_steps o q frames (nodes ++ ns) (made + length ns) m h) ∙ g'),
          two_ends k r ns ms nodes frames made q' f (connective_node o (top k ns) (top (k + length ns) ms)) e
              (ap (λ z. connective_node o z (top (k + length ns) ms)) (last_is k nodes ns e)) i
              (ended_less r (right_binds o) q' (f ∷ frames) (nodes ++ ns ++ ms) _ (omega (arith, room.more, i)) h'),
        )
    derived_runs {r} {k} (beside of {a = a} {b} {x} {y} {ts} {us} {vs} {ns} {ms} i four p w p') five frames nodes made l e =
        let m : top_rank frames < 4 = omega (arith, l, four) in
        let f : Frame = timed_frame of a b x y (length (nodes ++ ns) - 1) in
        let z : f.rank ≡ 4 = rw i refl in
        let c : length (nodes ++ ns) ≡ k + length ns = count_is k nodes ns e in
        let n = suc (made + length ns) in (
          folded 5 (record { place = at_end; frames = f ∷ frames; nodes = nodes ++ ns ++ ms; terms = []; made = n + length ms }),
          go_then (st at_operand frames nodes made) (st at_end frames (nodes ++ ns) (made + length ns)) _ ts (word (timed_word of) ∷ (us ++ vs))
              (operand_runs p frames nodes made e ∙ operand_state frames (nodes ++ ns) (made + length ns) (omega (arith, m)))
              (ap (λ z. go z (us ++ vs)) (beside_steps of i frames (nodes ++ ns) (made + length ns) m)
              ∙ (bound_runs of w p' frames (nodes ++ ns) n ∙ operand_runs p' (f ∷ frames) (nodes ++ ns) n c)),
          two_ends k r ns ms nodes frames made _ f (timed_node of a b x y (top k ns) (top (k + length ns) ms)) e
              (ap (λ z. timed_node of a b x y z (top (k + length ns) ms)) (last_is k nodes ns e)) (omega (arith, z, four))
              (operand_ended r (f ∷ frames) (nodes ++ ns ++ ms) (n + length ms) five),
        )
    derived_runs {r} (alone {ns = ns} p) five frames nodes made l e =
        (_, operand_runs p frames nodes made e, operand_ended r frames (nodes ++ ns) (made + length ns) five)

    -- an operand
    pub operand_runs : {k : ℕ} {ts : List Token} {ns : List Node} → Operand s k ts ns
        → (frames : List Frame) (nodes : List Node) (made : ℕ) → length nodes ≡ k
        → go (st at_operand frames nodes made) ts ≡ ended frames (nodes ++ ns) (made + length ns)
    operand_runs {k} (negated {ts = ts} {ns} p) frames nodes made e =
        ap (λ z. go z ts) (negation_steps frames nodes made)
        ∙ (operand_runs p (negation ∷ frames) nodes (suc made) e ∙ one_ends k ns nodes frames made negation _ e refl refl)
    operand_runs {k} (prefixed of {a = a} {b} {x} {y} {ts} {us} {ns} i w p) frames nodes made e =
        let f : Frame = timed_frame of a b x y (length nodes - 1) in
        ap (λ z. go z (us ++ ts)) (before_steps of i frames nodes made) ∙ (bound_runs of w p frames nodes (suc made)
        ∙ (operand_runs p (f ∷ frames) nodes (suc made) e
        ∙ one_ends k ns nodes frames made f _ e (rw i refl) (before_node of a b x y (length nodes - 1) (top k ns) i)))
    operand_runs (constant b) frames nodes made e = constant_steps b frames nodes made ∙ ended_is frames _ _ _ _ refl (omega arith)
    operand_runs (enclosed {ts = ts} {ns} d) frames nodes made e =
        let (q, g, h) = derived_runs d (omega arith) (paren ∷ frames) nodes made (omega arith) e in
        go_then (st at_operand (paren ∷ frames) nodes made) (Some q) _ ts (close_paren ∷ []) g (closes q frames (nodes ++ ns) (made + length ns) h)
    operand_runs (compared a) frames nodes made e = atom_runs a frames nodes made ∙ ended_is frames _ _ _ _ refl (omega arith)

  -- a formula from the start
  pub formula_runs : {ts : List Token} {ns : List Node} → IsFormula s 0 ts ns → (q : State) × (go (Some start) ts ≡ Some q) × Ended 1 q [] ns (0 + length ns)
  formula_runs f = derived_runs (formula_derived 1 (omega arith) f) (omega arith) [] [] 0 (omega arith) refl

  -- tokens are a formula in at most one way
  pub nodes_unique : {ts : List Token} {ns ms : List Node} → IsFormula s 0 ts ns → IsFormula s 0 ts ms → ns ≡ ms
  nodes_unique f g =
      let (q, e, h) = formula_runs f in
      let (p, d, k) = formula_runs g in
      let same : q ≡ p = cc in
      sym h.node ∙ (ap (λ z. nodes_after 1 z.frames z.nodes) same ∙ k.node)

  go_none : (ts : List Token) → go None ts ≡ None
  go_none [] = refl
  go_none (t ∷ ts) = go_none ts

  -- where the machine stops, no formula begins so
  pub run_stops : (before : List Token) → run s before ≡ None → ¬ MayBegin before
  run_stops before e m =
      let x = rescaled m.2 s in
      let (q, g, h) = formula_runs x.1 in
      let z : go (Some start) (reverse before ++ m.0) ≡ None =
      go_append (Some start) (reverse before) m.0 ∙ (ap (λ o. go o m.0) (sym (run_go before) ∙ e) ∙ go_none m.0) in
      cc

  -- a token at which the machine stops begins no formula there
  pub step_stops : (before : List Token) (q : State) (t : Token) → run s before ≡ Some q → step s q t ≡ None → ¬ MayBegin (t ∷ before)
  step_stops before q t e f = run_stops (t ∷ before) (ap (λ o. step_from s o t) e ∙ f)

  -- one step more
  pub step_runs : (before : List Token) (q : State) (t : Token) → run s before ≡ Some q → run s (t ∷ before) ≡ step s q t
  step_runs before q t e = ap (λ o. step_from s o t) e

  -- where nothing waits that binds with 1 or more, no parenthesis is open
  no_parens : (frames : List Frame) → frames_after 1 frames ≡ [] → has_paren (pending_of (ranks frames)) ≡ false
  no_parens [] e = refl
  no_parens (f ∷ frames) e = split (nat_le 1 f.rank) refl (no_parens frames)
    where
      split : (b : Bool) → nat_le 1 f.rank ≡ b → (frames_after 1 frames ≡ [] → has_paren (pending_of (ranks frames)) ≡ false)
          → has_paren (pending_of (ranks (f ∷ frames))) ≡ false
      split true g h =
          let l : 0 < f.rank = grind (arith, nat_tests, g) in no_paren f.rank (pending_of (ranks frames)) l ∙ h (rw g at e)
      split false g h = let z = rw g at e in absurd (cc)

  -- what the machine has not ended is no formula
  pub run_goes_on : (before : List Token) (q : State) → run s before ≡ Some q → ends_at q.place (ranks q.frames) ≡ false → ¬ MayEnd before
  run_goes_on before q e f m =
      let x = rescaled m.1 s in
      let (p, g, h) = formula_runs x.1 in
      let same : p ≡ q = same_Some p q (sym g ∙ (sym (run_go before) ∙ e)) in
      let z : has_paren (pending_of (ranks p.frames)) ≡ false = no_parens p.frames h.frame in
      let y : ends_at p.place (ranks p.frames) ≡ true = rw (h.place, z) refl in
      let w = rw same at y in cc
