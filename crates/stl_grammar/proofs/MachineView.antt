-- What the refusals read off the tokens is what the machine's state says.
use Rattle.std.proofs.Common.{◌≡◌, ℕ, zero, suc, ◌-◌, ◌<◌, ◌≤◌, List, [], ◌∷◌, ◌++◌, length, refl, ap, sym, ◌∙◌, Bool, true, false}
use Rattle.std.proofs.Common.{if◌then◌else◌, arith, inl, inr, ◌⊎◌}
use Rattle.std.specs.Prelude.{Option, Some, None, not, ◌==◌, nat_le}
use Rattle.std.proofs.lemmas.Bool.Decides.{nat_tests}
use Rattle.std.proofs.lemmas.List.{length_push}
use Rattle.std.proofs.lemmas.Option.{same_Some, none-some}
use Rattle.std.proofs.lemmas.Bool.{false≢true}
use Rattle.std.proofs.Math.Bool.{and-true, and-false}
use Rattle.stl_syntax.specs.declared.rel.Rel.{Rel}
use Rattle.stl_grammar.specs.declared.fault.What.{What}
use Rattle.stl_grammar.specs.declared.fault.What.TheVariants.{Operand, Number, Bracket, Star, Term, Relation, Constant, Paren, End}
use Rattle.stl_grammar.specs.Tokens.{Token, word, number, relation, open_paren, close_paren, open_bracket, close_bracket, comma, star, plus, minus}
use Rattle.stl_grammar.specs.FormulaRefusals.{Pending, a_paren, an_operator, an_implies, after_operand, after_paren}
use Rattle.stl_grammar.specs.FormulaRefusals.{ends_constant, pending_after, pending, has_paren, after_whole, expected}
use Rattle.stl_grammar.specs.FormulaRefusals.{begins_future_bound, makes_node, is_operand, nodes_made, terms_made}
use Rattle.stl_grammar.specs.FormulaRefusals.{begins_fifth_term, passes_limit, is_bad_number, is_out_of_order}
use Rattle.stl_grammar.specs.Operators.{by_and, by_or, by_implies, is_beside, looks_back}
use Rattle.stl_grammar.specs.Machine.{Kind, kind, a_constant, a_negation, a_connective, a_timed, an_inf, a_name, Place, at_operand, at_bound, at_low}
use Rattle.stl_grammar.specs.Machine.{at_comma, at_high, at_closing, at_term, at_star, at_name, at_sign, at_constant, at_number, at_end}
use Rattle.stl_grammar.specs.Machine.{Frame, State, start, top_rank, frames_after, opening, closing, timed_frame, begin_word, begin_operand}
use Rattle.stl_grammar.specs.Machine.{step_inf, step_name, after_word, closed, folded, step_at, run, ranks, with_rank, pending_of}
use Rattle.stl_grammar.specs.Machine.{bound_of, pending_in, expected_at, terms_at, fifth_at, disorder_at, future_at}
use Rattle.stl_grammar.specs.declared.operator.Timed.{Timed}
use Rattle.stl_syntax.specs.declared.scale.Scale.{Scale}
use Rattle.stl_syntax.specs.declared.atom.Term.{Term as AtomTerm}
use Rattle.stl_syntax.specs.declared.node.Node.{Node}
use Rattle.stl_grammar.proofs.MachineBegins.{Awaits, nothing as none_waits, inside, waits, right_of, Tidy, TidyAt, tidy_after, run_tidy}
use Rattle.stl_grammar.proofs.WordKinds.{ends_operand, has_operand, is_implication, is_inf, looks_ahead, is_word}
use Rattle.stl_grammar.proofs.WordKinds.{among_constants, among_prefixes, among_implies, among_inf, among_ahead}
use Rattle.stl_grammar.proofs.WordKinds.{among_reserved}

-- what a word says, by its kind
abbrev word_expected : Kind → List Token → What
word_expected k whole = if is_inf k then Bracket else if ends_operand k then after_whole whole else if is_word k then Operand else Relation

abbrev word_pending : Kind → List Pending → List Pending
word_pending k pending =
    if ends_operand k then after_operand pending else if has_operand k then an_operator ∷ pending else if is_implication k then
    an_implies ∷ pending else pending

abbrev word_makes : What → Kind → Bool
word_makes what k = if is_word k then not (is_inf k) else is_operand what

expected_word : (w : List ℕ) (k : Kind) (before : List Token) → kind w ≡ k → expected (word w ∷ before) ≡ word_expected k (word w ∷ before)
expected_word w k before e = rw (among_reserved w, among_inf w, among_constants w, e) refl

pending_word : (w : List ℕ) (k : Kind) (before : List Token) → kind w ≡ k → pending (word w ∷ before) ≡ word_pending k (pending before)
pending_word w k before e = rw (among_constants w, among_prefixes w, among_implies w, e) refl

makes_word : (what : What) (w : List ℕ) (k : Kind) → kind w ≡ k → makes_node what (word w) ≡ word_makes what k
makes_word what w k e = rw (among_reserved w, among_inf w, e) refl

terms_word : (w : List ℕ) (k : Kind) (before : List Token) → kind w ≡ k → terms_made (word w ∷ before) ≡ (if is_word k then 0 else suc (terms_made before))
terms_word w k before e = rw (among_reserved w, e) refl

-- a word after which an operand begins
abbrev begins_kind : Kind → Bool
begins_kind (a_constant b) = false
begins_kind an_inf = false
begins_kind a_name = false
begins_kind _ = true

begin_expected : (k : Kind) (whole : List Token) → begins_kind k ≡ true → word_expected k whole ≡ Operand
begin_expected (a_constant b) whole e = absurd (false≢true e)
begin_expected an_inf whole e = absurd (false≢true e)
begin_expected a_name whole e = absurd (false≢true e)
begin_expected (a_connective by_and) whole e = refl
begin_expected _ whole e = refl

data IsBracket : Token → Type 0 where
  an_open : IsBracket open_bracket
  a_close : IsBracket close_bracket

data IsSign : Token → Type 0 where
  a_plus : IsSign plus
  a_minus : IsSign minus

-- the tokens before an operand
data Begins : List Token → Type 0 where
  nothing : Begins []
  a_word : {w : List ℕ} {before : List Token} (k : Kind) → kind w ≡ k → begins_kind k ≡ true → Begins (word w ∷ before)
  a_parenthesis : {before : List Token} → Begins (open_paren ∷ before)
  after_number : {t : Token} {n k : ℕ} {before : List Token} → IsBracket t → Begins (t ∷ number n k ∷ before)
  after_inf : {t : Token} {w : List ℕ} {before : List Token} → IsBracket t → kind w ≡ an_inf → Begins (t ∷ word w ∷ before)

-- the tokens before a term
data Terms : List Token → Type 0 where
  at_first : {before : List Token} → Begins before → Terms before
  signed_first : {t : Token} {before : List Token} → IsSign t → Begins before → Terms (t ∷ before)
  signed_next : {t : Token} {w : List ℕ} {before : List Token} → IsSign t → Terms (t ∷ word w ∷ before)

-- the last tokens before a place
data Shape : Place → List Token → Type 0 where
  an_operand : {before : List Token} → Begins before → Shape at_operand before
  a_bound : {w : List ℕ} {before : List Token} {of : Timed} → kind w ≡ a_timed of → Shape (at_bound of) (word w ∷ before)
  a_low : {t : Token} {w : List ℕ} {before : List Token} {of : Timed} {x : Bool} → IsBracket t → kind w ≡ a_timed of
      → Shape (at_low of x) (t ∷ word w ∷ before)
  a_comma : {t : Token} {w : List ℕ} {before : List Token} {of : Timed} {x : Bool} {a j : ℕ} → IsBracket t → kind w ≡ a_timed of
      → Shape (at_comma of x a j) (number a j ∷ t ∷ word w ∷ before)
  a_high : {t : Token} {w : List ℕ} {before : List Token} {of : Timed} {x : Bool} {a j : ℕ} → IsBracket t → kind w ≡ a_timed of
      → Shape (at_high of x a j) (comma ∷ number a j ∷ t ∷ word w ∷ before)
  closing_number : {before : List Token} {of : Timed} {x : Bool} {a j b k : ℕ} {c : Option (ℕ × ℕ)}
      → Shape (at_closing of x a j c) (number b k ∷ comma ∷ before)
  closing_inf : {w : List ℕ} {before : List Token} {of : Timed} {x : Bool} {a j : ℕ} {c : Option (ℕ × ℕ)} → kind w ≡ an_inf
      → Shape (at_closing of x a j c) (word w ∷ comma ∷ before)
  first_term : {t : Token} {before : List Token} {less : Bool} → IsSign t → Begins before → Shape (at_term less) (t ∷ before)
  next_term : {t : Token} {w : List ℕ} {before : List Token} {less : Bool} → IsSign t → Shape (at_term less) (t ∷ word w ∷ before)
  a_star : {before : List Token} {m k n : ℕ} {less : Bool} → Terms before → Shape (at_star less n) (number m k ∷ before)
  the_name : {before : List Token} {n : ℕ} {less : Bool} → Shape (at_name less n) (star ∷ before)
  a_sign : {w : List ℕ} {before : List Token} → kind w ≡ a_name → Shape at_sign (word w ∷ before)
  the_constant : {r : Rel} {before : List Token} → Shape (at_constant r) (relation r ∷ before)
  the_number : {t : Token} {r : Rel} {before : List Token} {less : Bool} → IsSign t → Shape (at_number r less) (t ∷ relation r ∷ before)
  end_word : {w : List ℕ} {before : List Token} {b : Bool} → kind w ≡ a_constant b → Shape at_end (word w ∷ before)
  end_paren : {before : List Token} → Shape at_end (close_paren ∷ before)
  end_number : {r : Rel} {before : List Token} {n k : ℕ} → Shape at_end (number n k ∷ relation r ∷ before)
  end_signed : {t : Token} {r : Rel} {before : List Token} {n k : ℕ} → IsSign t → Shape at_end (number n k ∷ t ∷ relation r ∷ before)

-- where an operand begins
begins_expected : (before : List Token) → Begins before → expected before ≡ Operand
begins_expected before (a_word {w = w} {before = more} k e f) = expected_word w k more e ∙ begin_expected k (word w ∷ more) f
begins_expected before (after_number an_open) = refl
begins_expected before (after_inf {w = w} an_open e) = rw (among_inf w, e) refl
begins_expected before (after_inf {w = w} a_close e) = rw (among_inf w, e) refl
begins_expected before _ = refl

-- a number that begins a term is no constant, and a star follows it
terms_constant : (before : List Token) (n k : ℕ) → Terms before → ends_constant (number n k ∷ before) ≡ false
terms_constant before n k (at_first (after_number an_open)) = refl
terms_constant before n k (at_first (after_inf an_open e)) = refl
terms_constant before n k (signed_first a_plus nothing) = refl
terms_constant before n k (signed_first a_plus (after_number an_open)) = refl
terms_constant before n k (signed_first a_plus (after_inf an_open e)) = refl
terms_constant before n k (signed_first a_minus nothing) = refl
terms_constant before n k (signed_first a_minus (after_number an_open)) = refl
terms_constant before n k (signed_first a_minus (after_inf an_open e)) = refl
terms_constant before n k (signed_next a_plus) = refl
terms_constant before n k _ = refl

terms_expected : (before : List Token) (n k : ℕ) → Terms before → expected (number n k ∷ before) ≡ Star
terms_expected before n k (at_first (after_number an_open)) = refl
terms_expected before n k (at_first (after_inf {w = w} an_open e)) = rw (among_inf w, e) refl
terms_expected before n k (at_first (after_inf {w = w} a_close e)) = rw (among_inf w, e) refl
terms_expected before n k (signed_first {before = more} a_plus b) = rw (terms_constant (plus ∷ more) n k (signed_first a_plus b)) refl
terms_expected before n k (signed_first {before = more} a_minus b) = rw (terms_constant (minus ∷ more) n k (signed_first a_minus b)) refl
terms_expected before n k (signed_next a_plus) = refl
terms_expected before n k _ = refl

-- a sign before a term
sign_expected : (t : Token) (before : List Token) → IsSign t → Begins before → expected (t ∷ before) ≡ Term
sign_expected t before a_plus (after_number an_open) = refl
sign_expected t before a_plus (after_inf an_open e) = refl
sign_expected t before a_minus nothing = refl
sign_expected t before a_minus (after_number an_open) = refl
sign_expected t before a_minus (after_inf an_open e) = refl
sign_expected t before _ _ = refl

whole_expected : (before : List Token) (rs : List ℕ) → pending before ≡ pending_of rs → after_whole before ≡ expected_at at_end rs
whole_expected before rs e = ap (λ z. if has_paren z then Paren else End) e

-- what is expected, by the place
shape_expected : (p : Place) (before : List Token) (rs : List ℕ) → Shape p before → pending before ≡ pending_in (bound_of p) rs
    → expected before ≡ expected_at p rs
shape_expected p before rs (an_operand b) e = begins_expected before b
shape_expected p before rs (a_bound {w = w} {before = more} {of = of} f) e = begins_expected (word w ∷ more) (a_word (a_timed of) f refl)
shape_expected p before rs (a_low {w = w} an_open f) e = rw (among_inf w, f) refl
shape_expected p before rs (a_low {w = w} a_close f) e = rw (among_inf w, f) refl
shape_expected p before rs (a_comma {w = w} an_open f) e = rw (among_inf w, f) refl
shape_expected p before rs (a_comma {w = w} a_close f) e = rw (among_inf w, f) refl
shape_expected p before rs (closing_inf {w = w} f) e = rw (among_inf w, f) refl
shape_expected p before rs (first_term {t = t} {before = more} s b) e = sign_expected t more s b
shape_expected p before rs (next_term a_plus) e = refl
shape_expected p before rs (a_star {before = more} {m = m} {k} t) e = terms_expected more m k t
shape_expected p before rs (a_sign {w = w} {before = more} f) e = expected_word w a_name more f
shape_expected p before rs (the_number a_plus) e = refl
shape_expected p before rs (end_word {w = w} {before = more} {b = b} f) e =
    expected_word w (a_constant b) more f ∙ whole_expected (word w ∷ more) rs e
shape_expected p before rs end_paren e = whole_expected before rs e
shape_expected p before rs end_number e = whole_expected before rs e
shape_expected p before rs (end_signed a_plus) e = whole_expected before rs e
shape_expected p before rs (end_signed a_minus) e = whole_expected before rs e
shape_expected p before rs _ e = refl

-- outside an atom there are no terms
abbrev Outside : Place → List AtomTerm → Type 0
Outside (at_term less) terms = Unit {0}
Outside (at_star less n) terms = Unit {0}
Outside (at_name less n) terms = Unit {0}
Outside at_sign terms = Unit {0}
Outside (at_constant r) terms = Unit {0}
Outside (at_number r less) terms = Unit {0}
Outside _ terms = terms ≡ []

-- the tokens and the state say the same
record View (s : State) (before : List Token) : Type 0 where
  shape : Shape s.place before
  pend : pending before ≡ pending_in (bound_of s.place) (ranks s.frames)
  count : nodes_made before ≡ s.made
  terms : terms_made before ≡ terms_at s.place (length s.terms)
  outside : Outside s.place s.terms

same_view : (a b : State) (before : List Token) → Some a ≡ Some b → View a before → View b before
same_view a b before e v = let f : a ≡ b = same_Some a b e in rw (← f) v

-- a view of the next state by its parts
viewed : {p : Place} {frames : List Frame} {nodes : List Node} {terms : List AtomTerm} {n : ℕ} {next : State} {before : List Token}
    → Some (record { place = p; frames = frames; nodes = nodes; terms = terms; made = n }) ≡ Some next → Shape p before
    → pending before ≡ pending_in (bound_of p) (ranks frames) → nodes_made before ≡ n → terms_made before ≡ terms_at p (length terms)
    → Outside p terms → View next before
viewed {before = before} e s q c t o = same_view _ _ before e (record { shape = s; pend = q; count = c; terms = t; outside = o })

count_token : (t : Token) (what : What) (before : List Token) (n : ℕ) → expected before ≡ what → nodes_made before ≡ n
    → nodes_made (t ∷ before) ≡ (if makes_node what t then suc n else n)
count_token t what before n e f =
    ap (λ z. if makes_node z t then suc (nodes_made before) else nodes_made before) e ∙ ap (λ z. if makes_node what t then suc z else z) f

count_word : (w : List ℕ) (k : Kind) (what : What) (before : List Token) (n : ℕ) → kind w ≡ k → expected before ≡ what → nodes_made before ≡ n
    → nodes_made (word w ∷ before) ≡ (if word_makes what k then suc n else n)
count_word w k what before n e f g = count_token (word w) what before n f g ∙ ap (λ b. if b then suc n else n) (makes_word what w k e)

-- and after a word, by its kind
word_viewed : {w : List ℕ} {k : Kind} {what : What} {p : Place} {frames : List Frame} {nodes : List Node} {terms : List AtomTerm} {n m : ℕ} {next : State}
    {before : List Token} → kind w ≡ k → expected before ≡ what → nodes_made before ≡ n
    → Some (record { place = p; frames = frames; nodes = nodes; terms = terms; made = m }) ≡ Some next
    → Shape p (word w ∷ before) → word_pending k (pending before) ≡ pending_in (bound_of p) (ranks frames)
    → (if word_makes what k then suc n else n) ≡ m
    → (if is_word k then 0 else suc (terms_made before)) ≡ terms_at p (length terms) → Outside p terms → View next (word w ∷ before)
word_viewed {w} {k} {what} {n = n} {before = before} f x c e s q m t o =
    viewed e s (pending_word w k before f ∙ q) (count_word w k what before n f x c ∙ m) (terms_word w k before f ∙ t) o

-- one rank of those below is 1, or more
one_or_more : (n : ℕ) → 0 < n → (n ≡ 1) ⊎ (1 < n)
one_or_more zero l = absurd (omega (arith, l))
one_or_more (suc zero) l = inl refl
one_or_more (suc (suc n)) l = inr (omega arith)

-- what binds with 2 to 4 is not pending
low_rank : (n : ℕ) (pending : List Pending) → 1 < n → n < 5 → with_rank n pending ≡ pending
low_rank zero pending l m = absurd (omega (arith, l))
low_rank (suc zero) pending l m = absurd (omega (arith, l))
low_rank (suc (suc n)) pending l m = let e : nat_le 5 (suc (suc n)) ≡ false = grind (arith, nat_tests, m) in rw e refl

-- what binds with 5 is
high_rank : (n : ℕ) (pending : List Pending) → 5 ≤ n → with_rank n pending ≡ an_operator ∷ pending
high_rank zero pending l = absurd (omega (arith, l))
high_rank (suc zero) pending l = absurd (omega (arith, l))
high_rank (suc (suc n)) pending l = let e : nat_le 5 (suc (suc n)) ≡ true = grind (arith, nat_tests, l) in rw e refl

below_five : (n : ℕ) → right_of n ≤ 4 → n < 5
below_five zero l = omega arith
below_five (suc zero) l = omega arith
below_five (suc (suc n)) l = omega (arith, l)

-- no operator before its operand is the last where none waits
no_operators : {frames : List Frame} {pre : List Token} → Awaits frames pre → top_rank frames < 5
    → after_operand (pending_of (ranks frames)) ≡ pending_of (ranks frames)
no_operators none_waits l = refl
no_operators (inside f e w) l = rw e refl
no_operators (waits {frames = frames} f op p order fills w) l =
    by_rank (one_or_more f.rank p) (λ m. no_operators w (below_five (top_rank frames) (omega (arith, order, l))))
  where
    by_rank : (f.rank ≡ 1) ⊎ (1 < f.rank) → (1 < f.rank → after_operand (pending_of (ranks frames)) ≡ pending_of (ranks frames))
        → after_operand (with_rank f.rank (pending_of (ranks frames))) ≡ with_rank f.rank (pending_of (ranks frames))
    by_rank (inl e) h = rw e refl
    by_rank (inr m) h = let g = low_rank f.rank (pending_of (ranks frames)) m l in rw g (h m)

-- after an operand
operand_pending : (frames : List Frame) → Tidy (frames_after 5 frames)
    → after_operand (pending_of (ranks frames)) ≡ pending_of (ranks (frames_after 5 frames))
operand_pending [] h = refl
operand_pending (f ∷ frames) h = split (nat_le 5 f.rank) refl (operand_pending frames)
  where
    split : (b : Bool) → nat_le 5 f.rank ≡ b
        → (Tidy (frames_after 5 frames) → after_operand (pending_of (ranks frames)) ≡ pending_of (ranks (frames_after 5 frames)))
        → after_operand (pending_of (ranks (f ∷ frames))) ≡ pending_of (ranks (frames_after 5 (f ∷ frames)))
    split true e x =
        let l : 5 ≤ f.rank = grind (arith, nat_tests, e) in
        let g = high_rank f.rank (pending_of (ranks frames)) l in rw (e, g) (x (rw e at h))
    split false e x = let l : f.rank < 5 = grind (arith, nat_tests, e) in let t : Tidy (f ∷ frames) = rw e at h in rw e (no_operators t.1 l)

-- before a connective
joined_pending : (r : ℕ) → 1 < r → {frames : List Frame} {pre : List Token} → Awaits frames pre → top_rank frames < 5
    → pending_of (ranks (frames_after r frames)) ≡ pending_of (ranks frames)
joined_pending r s none_waits l = refl
joined_pending r s (inside f e w) l = let g : nat_le r f.rank ≡ false = grind (arith, nat_tests, e, s) in rw g refl
joined_pending r s (waits {frames = frames} f op p order fills w) l =
    split (nat_le r f.rank) refl (joined_pending r s w (below_five (top_rank frames) (omega (arith, order, l))))
  where
    split : (b : Bool) → nat_le r f.rank ≡ b → pending_of (ranks (frames_after r frames)) ≡ pending_of (ranks frames)
        → pending_of (ranks (frames_after r (f ∷ frames))) ≡ pending_of (ranks (f ∷ frames))
    split true e h =
        let m : 1 < f.rank = grind (arith, nat_tests, e, s) in
        let g = low_rank f.rank (pending_of (ranks frames)) m l in rw (e, g) h
    split false e h = rw e refl

-- what waits below is in order too
tidy_below : (f : Frame) (frames : List Frame) → Tidy (f ∷ frames) → Tidy frames
tidy_below f frames (pre, inside g e w) = (_, w)
tidy_below f frames (pre, waits g op p order fills w) = (_, w)

-- after a parenthesis
paren_rank : (n : ℕ) (pending : List Pending) → 0 < n → after_paren (with_rank n pending) ≡ after_paren pending
paren_rank zero pending l = absurd (omega (arith, l))
paren_rank (suc zero) pending l = refl
paren_rank (suc (suc n)) pending l = split (nat_le 5 (suc (suc n))) refl
  where
    split : (b : Bool) → nat_le 5 (suc (suc n)) ≡ b → after_paren (with_rank (suc (suc n)) pending) ≡ after_paren pending
    split true e = rw e refl
    split false e = rw e refl

record Closed (frames : List Frame) (ts : List AtomTerm) (n : ℕ) (next : State) : Type 0 where
  place : next.place ≡ at_end
  made : next.made ≡ n
  terms : next.terms ≡ ts
  pend : after_paren (pending_of (ranks frames)) ≡ pending_of (ranks next.frames)

closes : (place : Place) (frames : List Frame) (nodes : List Node) (terms : List AtomTerm) (made : ℕ) (next : State) → Tidy frames
    → closed (record { place = place; frames = frames_after 1 frames; nodes = nodes; terms = terms; made = made }) ≡ Some next → Closed frames terms made next
closes place [] nodes terms made next t e = absurd (none-some next e)
closes place (f ∷ frames) nodes terms made next t e = split (nat_le 1 f.rank) refl (closes place frames nodes terms made next (tidy_below f frames t))
  where
    split : (b : Bool) → nat_le 1 f.rank ≡ b
        → (closed (record { place = place; frames = frames_after 1 frames; nodes = nodes; terms = terms; made = made }) ≡ Some next
        → Closed frames terms made next) → Closed (f ∷ frames) terms made next
    split true g h =
        let l : 0 < f.rank = grind (arith, nat_tests, g) in
        let x = h (rw g at e) in
        record { place = x.place; made = x.made; terms = x.terms; pend = paren_rank f.rank (pending_of (ranks frames)) l ∙ x.pend }
    split false g h =
        let z : f.rank ≡ 0 = grind (arith, nat_tests, g) in
        let x : folded 5 (record { place = at_end; frames = frames; nodes = nodes; terms = terms; made = made }) ≡ next = same_Some _ next (rw g at e) in
        let p : after_paren (with_rank f.rank (pending_of (ranks frames))) ≡ pending_of (ranks (frames_after 5 frames)) =
        rw z (operand_pending frames (tidy_after (tidy_below f frames t))) in
        rw (← x) (record { place = refl; made = refl; terms = refl; pend = p })

-- an operator waits from the end of its bound on, and is pending from its word on if it stands before its operand
timed_pending : (b : Bool) (pending : List Pending) → (if b then pending else an_operator ∷ pending) ≡ with_rank (if b then 4 else 5) pending
timed_pending true pending = refl
timed_pending false pending = refl

grown : (terms : List AtomTerm) (t : AtomTerm) → length (terms ++ t ∷ []) ≡ suc (length terms)
grown terms t = omega (arith, length_push terms t)

-- one token more, at each place
module _ (s : Scale) (frames : List Frame) (nodes : List Node) (terms : List AtomTerm) (n : ℕ) (before : List Token) where
  abbrev now : Place → State
  now p = record { place = p; frames = frames; nodes = nodes; terms = terms; made = n }

  -- a word in the place of an operand
  word_view : (p : Place) → Begins before → pending before ≡ pending_of (ranks frames) → nodes_made before ≡ n → terms_made before ≡ length terms
      → terms ≡ [] → Tidy (frames_after 5 frames) → (w : List ℕ) (k : Kind) → kind w ≡ k → (next : State) → begin_word (now p) w k ≡ Some next
      → View next (word w ∷ before)
  word_view p b q c z o t w (a_constant i) f next e =
      word_viewed f (begins_expected before b) c e (end_word f) (ap after_operand q ∙ operand_pending frames t) refl refl refl
  word_view p b q c z o t w a_negation f next e =
      word_viewed f (begins_expected before b) c e (an_operand (a_word a_negation f refl)) (ap (λ z. an_operator ∷ z) q) refl refl o
  word_view p b q c z o t w (a_timed of) f next e = split (is_beside of) refl
    where
      split : (i : Bool) → is_beside of ≡ i → View next (word w ∷ before)
      split true i = let x = rw i at e in absurd (none-some next x)
      split false i = word_viewed f (begins_expected before b) c (rw i at e) (a_bound f) (rw i (ap (λ z. an_operator ∷ z) q)) refl refl o
  word_view p b q c z o t w a_name f next e =
      word_viewed f (begins_expected before b) c e (a_sign f) q refl (ap (λ z. suc z) z ∙ sym (grown terms _)) tt
  word_view p b q c z o t w _ f next e = absurd (none-some next e)

  begin_view : (p : Place) → Begins before → pending before ≡ pending_of (ranks frames) → nodes_made before ≡ n → terms_made before ≡ length terms
      → terms ≡ [] → Tidy (frames_after 5 frames) → (t : Token) (next : State) → begin_operand (now p) t ≡ Some next → View next (t ∷ before)
  begin_view p b q c z o y (word w) next e = word_view p b q c z o y w (kind w) refl next e
  begin_view p b q c z o y (number m k) next e = viewed e (a_star (at_first b))
      (ap (λ x. pending_after x (number m k) (pending before)) (terms_constant before m k (at_first b)) ∙ q)
      (count_token (number m k) Operand before n (begins_expected before b) c) z tt
  begin_view p b q c z o y open_paren next e = viewed e (an_operand a_parenthesis) (ap (λ x. a_paren ∷ x) q)
      (count_token open_paren Operand before n (begins_expected before b) c) refl o
  begin_view p b q c z o y plus next e = viewed e (first_term a_plus b) q
      (count_token plus Operand before n (begins_expected before b) c) z tt
  begin_view p b q c z o y minus next e = viewed e (first_term a_minus b) q
      (count_token minus Operand before n (begins_expected before b) c) z tt
  begin_view p b q c z o y _ next e = absurd (none-some next e)

-- brackets
opens_bracket : (of : Timed) (t : Token) (x : Bool) → opening of t ≡ Some x → IsBracket t
opens_bracket of open_bracket x e = an_open
opens_bracket of close_bracket x e = a_close
opens_bracket of _ x e = absurd (none-some x e)

closes_bracket : (of : Timed) (t : Token) (y : Bool) → closing of t ≡ Some y → IsBracket t
closes_bracket of open_bracket y e = an_open
closes_bracket of close_bracket y e = a_close
closes_bracket of _ y e = absurd (none-some y e)

bracket_pending : (t : Token) (before : List Token) → IsBracket t → pending (t ∷ before) ≡ pending before
bracket_pending t before an_open = refl
bracket_pending t before a_close = refl

bracket_nodes : (t : Token) (before : List Token) → IsBracket t → nodes_made (t ∷ before) ≡ nodes_made before
bracket_nodes t before an_open = refl
bracket_nodes t before a_close = refl

bracket_terms : (t : Token) (before : List Token) → IsBracket t → terms_made (t ∷ before) ≡ 0
bracket_terms t before an_open = refl
bracket_terms t before a_close = refl

low_constant : (t : Token) (w : List ℕ) (a j : ℕ) (before : List Token) → IsBracket t → ends_constant (number a j ∷ t ∷ word w ∷ before) ≡ false
low_constant t w a j before an_open = refl
low_constant t w a j before a_close = refl

signed_constant : (t : Token) (r : Rel) (n k : ℕ) (before : List Token) → IsSign t → ends_constant (number n k ∷ t ∷ relation r ∷ before) ≡ true
signed_constant t r n k before a_plus = refl
signed_constant t r n k before a_minus = refl

signed_terms : (t : Token) (r : Rel) (before : List Token) → IsSign t → terms_made (t ∷ relation r ∷ before) ≡ 0
signed_terms t r before a_plus = refl
signed_terms t r before a_minus = refl

module _ (s : Scale) (frames : List Frame) (nodes : List Node) (terms : List AtomTerm) (n : ℕ) where
  abbrev there : Place → State
  there p = record { place = p; frames = frames; nodes = nodes; terms = terms; made = n }

  -- from the tokens before a place to those one step on
  abbrev Moves : Place → List Token → Type 0
  Moves p before = pending before ≡ pending_in (bound_of p) (ranks frames) → nodes_made before ≡ n → terms_made before ≡ terms_at p (length terms)
      → Outside p terms → TidyAt p frames → (t : Token) (next : State) → step_at s p (there p) t ≡ Some next → View next (t ∷ before)

  -- outside atoms
  no_terms : (before : List Token) → terms_made before ≡ 0 → terms ≡ [] → terms_made before ≡ length terms
  no_terms before z o = z ∙ ap (λ x. length x) (sym o)

  bound_view : {of : Timed} {before : List Token} → Shape (at_bound of) before → Moves (at_bound of) before
  bound_view (a_bound {w = w} {before = more} {of = of} f) q c z o y t next e = split (opening of t) refl
    where
      back : (b : Bool) → looks_back of ≡ b → opening of t ≡ None → View next (t ∷ word w ∷ more)
      back true r d =
          let i : Frame = timed_frame of 0 None true true (length nodes - 1) in
          begin_view s (i ∷ frames) nodes terms n (word w ∷ more) at_operand (a_word (a_timed of) f refl) (q ∙ timed_pending (is_beside of) _) c
          (no_terms (word w ∷ more) z o) o (y i refl) t next (rw (d, r) at e)
      back false r d = let x = rw (d, r) at e in absurd (none-some next x)

      split : (b : Option Bool) → opening of t ≡ b → View next (t ∷ word w ∷ more)
      split (Some x) d = let i = opens_bracket of t x d in viewed (rw d at e) (a_low i f) (bracket_pending t (word w ∷ more) i ∙ q)
          (bracket_nodes t (word w ∷ more) i ∙ c) (bracket_terms t (word w ∷ more) i) o
      split None d = back (looks_back of) refl d

  inf_view : (of : Timed) (x : Bool) (a j : ℕ) (before : List Token) → pending (comma ∷ before) ≡ pending_in (Some of) (ranks frames)
      → nodes_made (comma ∷ before) ≡ n → terms ≡ [] → (w : List ℕ) (k : Kind) → kind w ≡ k → (next : State)
      → step_inf of x a j (there (at_high of x a j)) k ≡ Some next → View next (word w ∷ comma ∷ before)
  inf_view of x a j before q c o w an_inf f next e = split (looks_back of) refl
    where
      split : (b : Bool) → looks_back of ≡ b → View next (word w ∷ comma ∷ before)
      split true d = word_viewed f refl c (rw d at e) (closing_inf f) q refl refl o
      split false d = let x = rw d at e in absurd (none-some next x)
  inf_view of x a j before q c o w _ f next e = absurd (none-some next e)

  closing_begins : {of : Timed} {x : Bool} {a j : ℕ} {b : Option (ℕ × ℕ)} {before : List Token} → Shape (at_closing of x a j b) before
      → (t : Token) → IsBracket t → Begins (t ∷ before)
  closing_begins closing_number t s = after_number s
  closing_begins (closing_inf f) t s = after_inf s f

  closing_view : (of : Timed) (x : Bool) (a j : ℕ) (b : Option (ℕ × ℕ)) (before : List Token) → Shape (at_closing of x a j b) before
      → Moves (at_closing of x a j b) before
  closing_view of x a j b before h q c z o y t next e = split (closing of t) refl
    where
      split : (i : Option Bool) → closing of t ≡ i → View next (t ∷ before)
      split (Some i) d =
          let k = closes_bracket of t i d in
          viewed (rw d at e) (an_operand (closing_begins h t k)) (bracket_pending t before k ∙ (q ∙ timed_pending (is_beside of) _))
          (bracket_nodes t before k ∙ c) (bracket_terms t before k) o
      split None d = let y = rw d at e in absurd (none-some next y)

  -- a name after the other terms
  name_view : {what : What} (p : Place) (less : Bool) (i : ℕ) → is_operand what ≡ false → (before : List Token) → expected before ≡ what
      → pending before ≡ pending_of (ranks frames) → nodes_made before ≡ n → terms_made before ≡ length terms
      → (w : List ℕ) (k : Kind) → kind w ≡ k → (next : State) → step_name less i (there p) w k ≡ Some next → View next (word w ∷ before)
  name_view p less i y before x q c z w a_name f next e =
      word_viewed f x c e (a_sign f) q (ap (λ b. if b then suc n else n) y) (ap (λ i. suc i) z ∙ sym (grown terms _)) tt
  name_view p less i y before x q c z w _ f next e = absurd (none-some next e)

  term_terms : {less : Bool} {before : List Token} → Shape (at_term less) before → Terms before
  term_terms (first_term s b) = signed_first s b
  term_terms (next_term s) = signed_next s

  connective_view : (before : List Token) → pending before ≡ pending_of (ranks frames) → nodes_made before ≡ n → terms ≡ []
      → Tidy frames × (top_rank frames < 5) → (w : List ℕ) (k : Kind) → kind w ≡ k → (next : State) → after_word (there at_end) k ≡ Some next
      → View next (word w ∷ before)
  connective_view before q c o y w (a_connective by_implies) f next e =
      word_viewed f refl c e (an_operand (a_word (a_connective by_implies) f refl))
      (ap (λ z. an_implies ∷ z) (q ∙ sym (joined_pending 2 (omega arith) y.0.1 y.1))) refl refl o
  connective_view before q c o y w (a_connective by_and) f next e =
      word_viewed f refl c e (an_operand (a_word (a_connective by_and) f refl)) (q ∙ sym (joined_pending 3 (omega arith) y.0.1 y.1)) refl refl o
  connective_view before q c o y w (a_connective by_or) f next e =
      word_viewed f refl c e (an_operand (a_word (a_connective by_or) f refl)) (q ∙ sym (joined_pending 2 (omega arith) y.0.1 y.1)) refl refl o
  connective_view before q c o y w (a_timed of) f next e = split (is_beside of) (nat_le 4 (top_rank frames)) refl refl
    where
      split : (i g : Bool) → is_beside of ≡ i → nat_le 4 (top_rank frames) ≡ g → View next (word w ∷ before)
      split false g i d = let x = rw i at e in absurd (none-some next x)
      split true true i d = let x = rw (i, d) at e in absurd (none-some next x)
      split true false i d = word_viewed f refl c (rw (i, d) at e) (a_bound f) (rw i q) refl refl o
  connective_view before q c o y w _ f next e = absurd (none-some next e)

  moves : (p : Place) (before : List Token) → Shape p before → Moves p before
  moves at_operand before (an_operand b) q c z o y t next e =
      begin_view s frames nodes terms n before at_operand b q c (no_terms before z o) o y t next e
  moves (at_bound of) before h q c z o y t next e = bound_view h q c z o y t next e
  moves (at_low of x) before (a_low {t = b} {w = w} {before = more} i f) q c z o y (number a j) next e = viewed e (a_comma i f)
      (ap (λ x. pending_after x (number a j) (pending before)) (low_constant b w a j more i) ∙ q)
      (count_token (number a j) Number before n (shape_expected (at_low of x) before (ranks frames) (a_low i f) q) c) z o
  moves (at_comma of x a j) before (a_comma i f) q c z o y comma next e = viewed e (a_high i f) q c refl o
  moves (at_high of x a j) before (a_high i f) q c z o y (number b k) next e = viewed e closing_number q c refl o
  moves (at_high of x a j) before (a_high {t = b} {w = w} {before = more} i f) q c z o y (word v) next e =
      inf_view of x a j (number a j ∷ b ∷ word w ∷ more) q c o v (kind v) refl next e
  moves (at_closing of x a j b) before h q c z o y t next e = closing_view of x a j b before h q c z o y t next e
  moves (at_term less) before h q c z o y (number i k) next e = viewed e (a_star (term_terms h))
      (ap (λ b. pending_after b (number i k) (pending before)) (terms_constant before i k (term_terms h)) ∙ q)
      (count_token (number i k) Term before n (shape_expected (at_term less) before (ranks frames) h q) c) z tt
  moves (at_term less) before h q c z o y (word w) next e =
      name_view (at_term less) less 1 refl before (shape_expected (at_term less) before (ranks frames) h q) q c z w (kind w) refl next e
  moves (at_star less m) before h q c z o y star next e = viewed e the_name q c z tt
  moves (at_name less m) before h q c z o y (word w) next e =
      name_view (at_name less m) less m refl before (shape_expected (at_name less m) before (ranks frames) h q) q c z w (kind w) refl next e
  moves at_sign before (a_sign {w = w} {before = more} f) q c z o y plus next e = viewed e (next_term a_plus) q
      (count_token plus Relation (word w ∷ more) n (expected_word w a_name more f) c) z tt
  moves at_sign before (a_sign {w = w} {before = more} f) q c z o y minus next e = viewed e (next_term a_minus) q
      (count_token minus Relation (word w ∷ more) n (expected_word w a_name more f) c) z tt
  moves at_sign before (a_sign f) q c z o y (relation r) next e = viewed e the_constant q c refl tt
  moves (at_constant r) before the_constant q c z o y (number i k) next e =
      viewed e end_number (ap after_operand q ∙ operand_pending frames y) c refl refl
  moves (at_constant r) before the_constant q c z o y plus next e = viewed e (the_number a_plus) q c refl tt
  moves (at_constant r) before the_constant q c z o y minus next e = viewed e (the_number a_minus) q c refl tt
  moves (at_number r less) before (the_number {t = g} {before = more} h) q c z o y (number i k) next e = viewed e (end_signed h)
      (ap (λ b. pending_after b (number i k) (pending before)) (signed_constant g r i k more h) ∙ (ap after_operand q ∙ operand_pending frames y))
      (count_token (number i k) Constant before n (shape_expected (at_number r less) before (ranks frames) (the_number h) q) c)
      (signed_terms g r more h) refl
  moves at_end before h q c z o y (word w) next e = connective_view before q c o y w (kind w) refl next e
  moves at_end before h q c z o y close_paren next e =
      let x = closes at_end frames _ terms n next y.0 e in record {
        shape = rw x.place end_paren;
        pend = rw x.place (ap after_paren q ∙ x.pend);
        count = c ∙ sym x.made;
        terms = rw x.place refl;
        outside = rw x.place (x.terms ∙ o);
      }
  moves _ before h q c z o y _ next e = absurd (none-some next e)

run_view : (s : Scale) (before : List Token) (st : State) → run s before ≡ Some st → View st before
run_view s [] st e = same_view start st [] e (record { shape = an_operand nothing; pend = refl; count = refl; terms = refl; outside = refl })
run_view s (t ∷ before) st e = split (run s before) refl (λ x f. run_view s before x f)
  where
    split : (o : Option State) → run s before ≡ o → ((x : State) → run s before ≡ Some x → View x before) → View st (t ∷ before)
    split None f g = let z = rw f at e in absurd (none-some st z)
    split (Some x) f g = let v = g x f in
        moves s x.frames x.nodes x.terms x.made x.place before v.shape v.pend v.count v.terms v.outside (run_tidy s before x f) t st (rw f at e)

-- what is expected
pub run_expected : (s : Scale) (before : List Token) (st : State) → run s before ≡ Some st → expected before ≡ expected_at st.place (ranks st.frames)
run_expected s before st e = let v = run_view s before st e in shape_expected st.place before (ranks st.frames) v.shape v.pend

-- what is pending
pub run_pending : (s : Scale) (before : List Token) (st : State) → run s before ≡ Some st → pending before ≡ pending_in (bound_of st.place) (ranks st.frames)
run_pending s before st e = (run_view s before st e).pend

-- how many nodes are made
pub run_nodes : (s : Scale) (before : List Token) (st : State) → run s before ≡ Some st → nodes_made before ≡ st.made
run_nodes s before st e = (run_view s before st e).count

-- whether a number passes its limit
pub run_bad_number : (s : Scale) (before : List Token) (st : State) → run s before ≡ Some st → (n k : ℕ)
    → is_bad_number before (number n k) ≡ passes_limit (expected_at st.place (ranks st.frames)) n k
run_bad_number s before st e n k = ap (λ z. passes_limit z n k) (run_expected s before st e)

-- a fifth term
abbrev fifth_of : What → ℕ → Token → Bool
fifth_of Relation n plus = n == 4
fifth_of Relation n minus = n == 4
fifth_of what n t = false

fifth_computes : (before : List Token) (t : Token) (what : What) (n : ℕ) → expected before ≡ what → terms_made before ≡ n
    → begins_fifth_term before t ≡ fifth_of what n t
fifth_computes before plus Relation n e f = rw (e, f) (and-true (n == 4))
fifth_computes before minus Relation n e f = rw (e, f) (and-true (n == 4))
fifth_computes before plus what n e f = rw (e, f) (and-false (n == 4))
fifth_computes before minus what n e f = rw (e, f) (and-false (n == 4))
fifth_computes before t Relation n e f = refl
fifth_computes before t what n e f = refl

fifth_place : (p : Place) (rs : List ℕ) (n : ℕ) (t : Token) → fifth_of (expected_at p rs) (terms_at p n) t ≡ fifth_at p n t
fifth_place at_sign rs n plus = refl
fifth_place at_sign rs n minus = refl
fifth_place at_sign rs n t = refl
fifth_place at_end rs n t = split (has_paren (pending_of rs))
  where
    split : (b : Bool) → fifth_of (if b then Paren else End) 0 t ≡ false
    split true = refl
    split false = refl
fifth_place p rs n t = refl

-- whether a fifth term begins
pub run_fifth : (s : Scale) (before : List Token) (st : State) → run s before ≡ Some st → (t : Token)
    → begins_fifth_term before t ≡ fifth_at st.place (length st.terms) t
run_fifth s before st e t =
    fifth_computes before t (expected_at st.place (ranks st.frames)) (terms_at st.place (length st.terms)) (run_expected s before st e)
    (run_view s before st e).terms ∙ fifth_place st.place (ranks st.frames) (length st.terms) t

-- the bounds in order
begins_order : (before : List Token) (t : Token) → Begins before → is_out_of_order before t ≡ false
begins_order before t (after_number an_open) = refl
begins_order before t (after_inf an_open e) = refl
begins_order before t _ = refl

high_order : (before : List Token) (of : Timed) (x : Bool) (a j : ℕ) (t : Token)
    → is_out_of_order (comma ∷ number a j ∷ before) t ≡ disorder_at (at_high of x a j) t
high_order before of x a j (number b k) = refl
high_order before of x a j t = refl

shape_order : (p : Place) (before : List Token) (t : Token) → Shape p before → is_out_of_order before t ≡ disorder_at p t
shape_order p before t (an_operand b) = begins_order before t b
shape_order p before t (a_low an_open f) = refl
shape_order p before t (a_high {t = b} {w = w} {before = more} {of = of} {x = x} {a = a} {j} s f) = high_order (b ∷ word w ∷ more) of x a j t
shape_order p before t (first_term a_plus b) = refl
shape_order p before t (next_term a_plus) = refl
shape_order p before t (the_number a_plus) = refl
shape_order p before t _ = refl

-- whether a bound is out of order
pub run_disorder : (s : Scale) (before : List Token) (st : State) → run s before ≡ Some st → (t : Token) → is_out_of_order before t ≡ disorder_at st.place t
run_disorder s before st e t = shape_order st.place before t (run_view s before st e).shape

-- the upper end of a bound that looks ahead
begins_future : (before : List Token) → Begins before → begins_future_bound before ≡ false
begins_future before (after_number an_open) = refl
begins_future before (after_inf an_open e) = refl
begins_future before _ = refl

shape_future : (p : Place) (before : List Token) → Shape p before → begins_future_bound before ≡ future_at p
shape_future p before (an_operand b) = begins_future before b
shape_future p before (a_low an_open f) = refl
shape_future p before (a_high {w = w} an_open f) = among_ahead w ∙ ap looks_ahead f
shape_future p before (a_high {w = w} a_close f) = among_ahead w ∙ ap looks_ahead f
shape_future p before (first_term a_plus b) = refl
shape_future p before (next_term a_plus) = refl
shape_future p before (the_number a_plus) = refl
shape_future p before _ = refl

-- whether a bound of the future begins
pub run_future : (s : Scale) (before : List Token) (st : State) → run s before ≡ Some st → begins_future_bound before ≡ future_at st.place
run_future s before st e = shape_future st.place before (run_view s before st e).shape
