-- What a parser of tokens keeps is the state of the machine, at each scale.
use Rattle.std.proofs.Common.{◌≡◌, ℕ, ◌-◌, List, [], ◌∷◌, ◌++◌, length, refl, sym, ap, ◌∙◌, Bool, true, false, if◌then◌else◌, arith}
use Rattle.std.specs.Prelude.{nat_le, nat_lt, ◌&&◌, ◌||◌, not, reverse, Option, Some, None, option_map, IsTrue}
use Rattle.std.proofs.lemmas.Bool.{and_parts, or_parts}
use Rattle.std.proofs.lemmas.Bool.Decides.{nat_tests}
use Rattle.std.proofs.lemmas.Option.{same_Some}
use Rattle.stl_syntax.specs.Characters.{is_among, begins_word, goes_on_word, all}
use Rattle.stl_syntax.specs.Names.{reserved, is_name}
use Rattle.stl_syntax.specs.declared.scale.Scale.{Scale}
use Rattle.stl_syntax.specs.declared.atom.Term.{Term}
use Rattle.stl_grammar.specs.Tokens.{Token, number}
use Rattle.stl_grammar.specs.Spelling.{spelling}
use Rattle.stl_grammar.specs.Taken.{plain}
use Rattle.stl_grammar.specs.Drafts.{ticks_of, operator_node, node_in, nodes_in}
use Rattle.stl_grammar.specs.Operators.{Connective, by_and, left_binds, Timed, TUntil, TSince, TOnce, THistorically, is_beside, looks_back, may_be_open}
use Rattle.stl_grammar.specs.FormulaRefusals.{MayEnd}
use Rattle.stl_grammar.specs.Grammar.{IsFormula}
use Rattle.stl_grammar.specs.Machine as Machine
use Rattle.stl_grammar.specs.Machine.{kind, a_name, State, frames_after, nodes_after, timed_frame, step, run, ranks, bound_of, pending_in, pending_of}
use Rattle.stl_grammar.specs.Parsing.{Parse, parse_step, begin_operand, closed, completed, folded, folded_frames, folded_drafts, rank, top_rank}
use Rattle.stl_grammar.specs.Parsing.{joined, waiting, begun, operator_rank, bound, coefficient, between, node_of_frame, IsKnown}
use Rattle.stl_grammar.specs.Refusing.{bad_in, ranks_of}
use Rattle.stl_grammar.specs.States.{upper_of, frame_in, frames_in, state_in}
use Rattle.stl_grammar.specs.declared.decimal.Decimal.{Decimal}
use Rattle.stl_grammar.specs.declared.token.Keyword.{Keyword}
use Rattle.stl_grammar.specs.declared.token.Keyword.TheVariants.{Constant as ConstantWord, Connective as ConnectiveWord, Timed as TimedWord, Inf}
use Rattle.stl_grammar.specs.declared.token.Token.{Token as Code}
use Rattle.stl_grammar.specs.declared.token.Token.TheVariants.{Keyword as IsKeyword, Name, Number}
use Rattle.stl_grammar.specs.declared.token.Token.TheVariants.{CloseParen, OpenBracket, CloseBracket, Comma, Star, Plus}
use Rattle.stl_grammar.specs.declared.draft.Bound.TheVariants.{Whole, From, Within}
use Rattle.stl_grammar.specs.declared.draft.Operator.{Operator}
use Rattle.stl_grammar.specs.declared.draft.Operator.TheVariants.{Not as Negation, Connective as Joins, Timed as Bounded}
use Rattle.stl_grammar.specs.declared.draft.Frame.{Frame}
use Rattle.stl_grammar.specs.declared.draft.Frame.TheVariants.{Paren as Opened, Operator as Waits}
use Rattle.stl_grammar.specs.declared.draft.Draft.{Draft}
use Rattle.stl_grammar.specs.declared.draft.Draft.TheVariants.{Const, Sum}
use Rattle.stl_grammar.specs.declared.place.Place.{Place}
use Rattle.stl_grammar.specs.declared.place.Place.TheVariants.{Operand, Bound as InBound, Low, Comma as AtComma, High, Closing}
use Rattle.stl_grammar.specs.declared.place.Place.TheVariants.{Term as AtTerm, Star as AtStar, Name as AtName}
use Rattle.stl_grammar.specs.declared.place.Place.TheVariants.{Sign, Constant, Number as AtNumber, End}
use Rattle.stl_grammar.proofs.BuildLemmas.{nodes_in-append, length-nodes_in}
use Rattle.stl_grammar.proofs.WordKinds.{name_kind, timed_kind, connective_kind, constant_kind}
use Rattle.stl_grammar.proofs.MachineRuns.{run_go, formula_runs}
use Rattle.stl_grammar.proofs.Rescaled.{rescaled}

-- a name is no word of the grammar
free_name : (w : List ℕ) → IsTrue (is_name w) → is_among w reserved ≡ false
free_name [] h = absurd (cc)
free_name (c ∷ w) h = turned (is_among (c ∷ w) reserved) (and_parts (begins_word c && all goes_on_word w) (not (is_among (c ∷ w) reserved)) h).1
  where
    turned : (b : Bool) → not b ≡ true → b ≡ false
    turned true e = absurd (cc)
    turned false e = refl

-- so a token that is spelled as a name is one
pub known_kind : (text : List ℕ) (from to : ℕ) → IsKnown text (Name from to) → kind (between from to text) ≡ a_name
known_kind text from to k = name_kind (between from to text) (free_name (between from to text) k.2)

-- a number that is no coefficient too large is kept as it stands
abbrev Fits : Code → Type 0
Fits (Number d) = coefficient d ≡ d.value
Fits _ = Unit {0}

coefficient_is : (d : Decimal) → (nat_lt 0 d.decimals || nat_lt 16 d.value) ≡ false → coefficient d ≡ d.value
coefficient_is d e =
    let f : nat_lt 16 d.value ≡ false = (or_parts (nat_lt 0 d.decimals) (nat_lt 16 d.value) e).1 in
    let g : nat_le d.value 16 ≡ true = grind (arith, nat_tests, f) in rw g refl

begin_fits : (c : Code) → bad_in Operand c ≡ false → Fits c
begin_fits (Number d) e = coefficient_is d e
begin_fits _ e = tt

-- the last place, and how tightly the last frame binds
last_same : (s : Scale) (drafts : List Draft) → length (nodes_in s drafts) - 1 ≡ length drafts - 1
last_same s drafts = ap (λ n. n - 1) (length-nodes_in s drafts)

top_same : (s : Scale) (frames : List Frame) → Machine.top_rank (frames_in s frames) ≡ top_rank frames
top_same s [] = refl
top_same s (f ∷ frames) = refl

-- what is open after some came to their end
pub frames_same : (s : Scale) (r : ℕ) (frames : List Frame) → frames_in s (folded_frames r frames) ≡ frames_after r (frames_in s frames)
frames_same s r [] = refl
frames_same s r (f ∷ frames) = by_rank (nat_le r (rank f)) (frames_same s r frames)
  where
    by_rank : (b : Bool) → frames_in s (folded_frames r frames) ≡ frames_after r (frames_in s frames)
        → frames_in s (if b then folded_frames r frames else f ∷ frames)
        ≡ (if b then frames_after r (frames_in s frames) else frame_in s f ∷ frames_in s frames)
    by_rank true h = h
    by_rank false h = refl

-- the nodes of these drafts
pub nodes_same : (s : Scale) (r : ℕ) (frames : List Frame) (drafts : List Draft)
    → nodes_in s (folded_drafts r frames drafts) ≡ nodes_after r (frames_in s frames) (nodes_in s drafts)
nodes_same s r [] drafts = refl
nodes_same s r (f ∷ frames) drafts = by_rank (nat_le r (rank f)) (nodes_same s r frames (drafts ++ node_of_frame f (length drafts - 1) ∷ []) ∙ more)
  where
    more : nodes_after r (frames_in s frames) (nodes_in s (drafts ++ node_of_frame f (length drafts - 1) ∷ []))
        ≡ nodes_after r (frames_in s frames) (nodes_in s drafts ++ node_in s (node_of_frame f (length (nodes_in s drafts) - 1)) ∷ [])
    more = ap (λ z. nodes_after r (frames_in s frames) z) (nodes_in-append s drafts _
        ∙ ap (λ z. nodes_in s drafts ++ node_in s (node_of_frame f z) ∷ []) (sym (last_same s drafts)))

    by_rank : (b : Bool) → nodes_in s (folded_drafts r frames (drafts ++ node_of_frame f (length drafts - 1) ∷ []))
        ≡ nodes_after r (frames_in s frames) (nodes_in s drafts ++ node_in s (node_of_frame f (length (nodes_in s drafts) - 1)) ∷ [])
        → nodes_in s (if b then folded_drafts r frames (drafts ++ node_of_frame f (length drafts - 1) ∷ []) else drafts)
        ≡ (if b then nodes_after r (frames_in s frames) (nodes_in s drafts ++ node_in s (node_of_frame f (length (nodes_in s drafts) - 1)) ∷ [])
        else nodes_in s drafts)
    by_rank true h = h
    by_rank false h = refl

folded_same : (s : Scale) (r : ℕ) (p : Parse) → state_in s (folded r p) ≡ Machine.folded r (state_in s p)
folded_same s r p = rw (frames_same s r p.frames, nodes_same s r p.frames p.drafts) refl

completed_same : (s : Scale) (d : Draft) (p : Parse) → state_in s (completed d p) ≡ Machine.completed (node_in s d) (state_in s p)
completed_same s d p = rw (frames_same s 5 p.frames, nodes_same s 5 p.frames (p.drafts ++ d ∷ []), nodes_in-append s p.drafts (d ∷ [])) refl

-- how tightly each binds
pub ranks_same : (s : Scale) (frames : List Frame) → ranks (frames_in s frames) ≡ ranks_of frames
ranks_same s [] = refl
ranks_same s (f ∷ frames) = ap (λ z. rank f ∷ z) (ranks_same s frames)

-- an operator that waits
waiting_same : (s : Scale) (o : Operator) (p : Parse) → state_in s (waiting o p)
    ≡ Machine.opened (record { rank = operator_rank o; node = λ last. operator_node s.time o (length (nodes_in s p.drafts) - 1) last }) (state_in s p)
waiting_same s o p = rw (last_same s p.drafts) refl

-- one of two, or none
choice_same : (s : Scale) (b : Bool) (x : Option Parse) (y : Option State) → option_map (state_in s) x ≡ y
    → option_map (state_in s) (if b then x else None) ≡ (if b then y else None)
choice_same s true x y e = e
choice_same s false x y e = refl

not_choice_same : (s : Scale) (b : Bool) (x : Option Parse) (y : Option State) → option_map (state_in s) x ≡ y
    → option_map (state_in s) (if b then None else x) ≡ (if b then None else y)
not_choice_same s true x y e = refl
not_choice_same s false x y e = e

-- an operand begins
begin_same : (s : Scale) (text : List ℕ) (p : Parse) (t : Code) → IsKnown text t → Fits t
    → option_map (state_in s) (begin_operand text p t) ≡ Machine.begin_operand (state_in s p) (plain text t)
unfolding kind
begin_same s text p (IsKeyword (ConstantWord b)) k f = rw (constant_kind b) (ap Some (completed_same s (Const b) (begun End p)))
begin_same s text p (IsKeyword (ConnectiveWord o)) k f = rw (connective_kind o) refl
begin_same s text p (IsKeyword (TimedWord of)) k f = rw (timed_kind of) (not_choice_same s (is_beside of) _ _ refl)
begin_same s text p (Name from to) k f = rw (known_kind text from to k) refl
begin_same s text p (Number d) k f = rw f refl
begin_same s text p _ k f = refl

-- a word of the grammar is no name
no_name : (w : Keyword) (negative : Bool) (n : ℕ) (q : State) → None ≡ Machine.step_name negative n q (spelling w) (kind (spelling w))
unfolding kind
no_name (ConstantWord c) negative n q = rw (constant_kind c) refl
no_name (ConnectiveWord o) negative n q = rw (connective_kind o) refl
no_name (TimedWord of) negative n q = rw (timed_kind of) refl
no_name _ negative n q = refl

-- a parenthesis ends
closed_same : (s : Scale) (place : Place) (frames : List Frame) (drafts : List Draft) (terms : List Term) (made : ℕ)
    → option_map (state_in s) (closed (record { place = place; frames = folded_frames 1 frames; drafts = drafts; terms = terms; made = made }))
    ≡ Machine.closed (state_in s (record { place = place; frames = folded_frames 1 frames; drafts = drafts; terms = terms; made = made }))
closed_same s place [] drafts terms made = refl
closed_same s place (Opened ∷ frames) drafts terms made = ap Some (rw (frames_same s 5 frames, nodes_same s 5 frames drafts) refl)
closed_same s place (Waits o left ∷ frames) drafts terms made = rw (some_rank o) (closed_same s place frames drafts terms made)
  where
    some_rank : (o : Operator) → nat_le 1 (operator_rank o) ≡ true
    some_rank (Joins by_and) = refl
    some_rank (Joins _) = refl
    some_rank (Bounded TUntil b) = refl
    some_rank (Bounded _ b) = refl
    some_rank Negation = refl

module _ (s : Scale) (text : List ℕ) (frames : List Frame) (drafts : List Draft) (terms : List Term) (made : ℕ) where
  -- the parser at a place
  abbrev here : Place → Parse
  here place = record { place = place; frames = frames; drafts = drafts; terms = terms; made = made }

  -- a step of the parser is one of the machine
  abbrev Same : Place → Code → Type 0
  Same place t = option_map (state_in s) (parse_step text (here place) t) ≡ step s (state_in s (here place)) (plain text t)

  -- where the bound is left out
  left_out_same : (of : Timed) (t : Code) → IsKnown text t → Fits t
      → option_map (state_in s) (begin_operand text (waiting (Bounded of Whole) (here (InBound of))) t)
      ≡ Machine.begin_operand (Machine.opened (timed_frame of 0 None true true (length (nodes_in s drafts) - 1)) (state_in s (here (InBound of))))
      (plain text t)
  left_out_same of t k f = begin_same s text (waiting (Bounded of Whole) (here (InBound of))) t k f
      ∙ ap (λ z. Machine.begin_operand z (plain text t)) (waiting_same s (Bounded of Whole) (here (InBound of)))

  skips_same : (of : Timed) (t : Code) → IsKnown text t → Fits t
      → option_map (state_in s) (if looks_back of then begin_operand text (waiting (Bounded of Whole) (here (InBound of))) t else None)
      ≡ (if looks_back of then Machine.begin_operand
      (Machine.opened (timed_frame of 0 None true true (length (nodes_in s drafts) - 1)) (state_in s (here (InBound of)))) (plain text t) else None)
  skips_same of t k f = choice_same s (looks_back of) _ _ (left_out_same of t k f)

  out_same : (of : Timed) → Same (InBound of) CloseBracket
  out_same of = by_open (may_be_open of) refl
    where
      by_open : (b : Bool) → may_be_open of ≡ b → Same (InBound of) CloseBracket
      by_open true e = rw e refl
      by_open false e = rw e (skips_same of CloseBracket tt tt)

  -- where it ends
  ends_same : (of : Timed) (x : Bool) (low : Decimal) (high : Option Decimal) (y : Bool)
      → state_in s (waiting (Bounded of (bound x low high y)) (here (Closing of x low high)))
      ≡ Machine.opened (timed_frame of (ticks_of s.time low) (Machine.upper_end s.time (upper_of high)) x (Machine.upper_in (upper_of high) y)
      (length (nodes_in s drafts) - 1)) (state_in s (here (Closing of x low high)))
  ends_same of x low None y = waiting_same s (Bounded of (From low x)) (here (Closing of x low None))
  ends_same of x low (Some high) y =
      waiting_same s (Bounded of (Within (record { low = low; high = high; low_in = x; high_in = y }))) (here (Closing of x low (Some high)))

  open_same : (of : Timed) (x : Bool) (low : Decimal) (high : Option Decimal) → Same (Closing of x low high) OpenBracket
  open_same of x low high = by_open (may_be_open of) refl
    where
      by_open : (b : Bool) → may_be_open of ≡ b → Same (Closing of x low high) OpenBracket
      by_open true e = rw e (ap Some (ends_same of x low high false))
      by_open false e = rw e refl

  inf_same : (of : Timed) (x : Bool) (low : Decimal) → Same (High of x low) (IsKeyword Inf)
  unfolding kind
  inf_same of x low = by_back (looks_back of) refl
    where
      by_back : (b : Bool) → looks_back of ≡ b → Same (High of x low) (IsKeyword Inf)
      by_back true e = rw e refl
      by_back false e = rw e refl

  joined_same : (o : Connective) → state_in s (joined o (here End)) ≡ Machine.joined o (state_in s (here End))
  joined_same o = waiting_same s (Joins o) (begun Operand (folded (left_binds o) (here End)))
      ∙ rw (frames_same s (left_binds o) frames, nodes_same s (left_binds o) frames drafts) refl

  step_same : (place : Place) (t : Code) → IsKnown text t → bad_in place t ≡ false → Same place t
  unfolding kind
  step_same Operand t k b = begin_same s text (here Operand) t k (begin_fits t b)
  step_same (InBound of) OpenBracket k b = refl
  step_same (InBound of) CloseBracket k b = out_same of
  step_same (InBound of) t k b = skips_same of t k (begin_fits t b)
  step_same (Low of x) (Number d) k b = refl
  step_same (AtComma of x low) Comma k b = refl
  step_same (High of x low) (IsKeyword Inf) k b = inf_same of x low
  step_same (High of x low) (IsKeyword (ConstantWord c)) k b = rw (constant_kind c) refl
  step_same (High of x low) (IsKeyword (ConnectiveWord o)) k b = rw (connective_kind o) refl
  step_same (High of x low) (IsKeyword (TimedWord o)) k b = rw (timed_kind o) refl
  step_same (High of x low) (Name from to) k b = rw (known_kind text from to k) refl
  step_same (Closing of x low high) OpenBracket k b = open_same of x low high
  step_same (Closing of x low high) CloseBracket k b = ap Some (ends_same of x low high true)
  step_same (AtTerm negative) (IsKeyword w) k b = no_name w negative 1 (state_in s (here (AtTerm negative)))
  step_same (AtTerm negative) (Name from to) k b = rw (known_kind text from to k) refl
  step_same (AtTerm negative) (Number d) k b = rw (coefficient_is d b) refl
  step_same (AtStar negative coef) Star k b = refl
  step_same (AtName negative coef) (IsKeyword w) k b = no_name w negative (coefficient coef) (state_in s (here (AtName negative coef)))
  step_same (AtName negative coef) (Name from to) k b = rw (known_kind text from to k) refl
  step_same Sign Plus k b = refl
  step_same (Constant rel) (Number d) k b =
      ap Some (completed_same s (Sum (record { terms = terms; rel = rel; negative = false; limit = d })) (here (Constant rel)))
  step_same (AtNumber rel negative) (Number d) k b =
      ap Some (completed_same s (Sum (record { terms = terms; rel = rel; negative = negative; limit = d })) (here (AtNumber rel negative)))
  step_same End (IsKeyword (ConnectiveWord o)) k b = rw (connective_kind o) (ap Some (joined_same o))
  step_same End (IsKeyword (TimedWord of)) k b =
      rw (timed_kind of, top_same s frames) (choice_same s (is_beside of) _ _ (not_choice_same s (nat_le 4 (top_rank frames)) _ _ refl))
  step_same End (IsKeyword (ConstantWord c)) k b = rw (constant_kind c) refl
  step_same End (Name from to) k b = rw (known_kind text from to k) refl
  step_same End CloseParen k b = closed_same s End frames (folded_drafts 1 frames drafts) terms made
      ∙ ap (λ z. Machine.closed z) (folded_same s 1 (here End))
  step_same _ _ k b = refl

-- two states differ in their numbers alone
abbrev pub Alike : Option State → Option State → Type 0
Alike None None = Unit {0}
Alike None (Some b) = ⊥
Alike (Some a) None = ⊥
Alike (Some a) (Some b) = (pending_in (bound_of a.place) (ranks a.frames) ≡ pending_in (bound_of b.place) (ranks b.frames)) × (a.made ≡ b.made)

-- so they do after any two numbers
pub number_alike : (s : Scale) (text : List ℕ) (place : Place) (frames : List Frame) (drafts : List Draft) (terms : List Term) (made : ℕ)
    (d : Decimal) (n k : ℕ)
    → Alike (option_map (state_in s) (parse_step text (here s text frames drafts terms made place) (Number d)))
    (step s (state_in s (here s text frames drafts terms made place)) (number n k))
number_alike s text Operand frames drafts terms made d n k = (refl, refl)
number_alike s text (InBound TSince) frames drafts terms made d n k = (refl, refl)
number_alike s text (InBound TOnce) frames drafts terms made d n k = (refl, refl)
number_alike s text (InBound THistorically) frames drafts terms made d n k = (refl, refl)
number_alike s text (Low of x) frames drafts terms made d n k = (refl, refl)
number_alike s text (High of x low) frames drafts terms made d n k = (refl, refl)
number_alike s text (AtTerm negative) frames drafts terms made d n k = (refl, refl)
number_alike s text (Constant rel) frames drafts terms made d n k = (ap (λ z. pending_of (ranks z)) (frames_same s 5 frames), refl)
number_alike s text (AtNumber rel negative) frames drafts terms made d n k = (ap (λ z. pending_of (ranks z)) (frames_same s 5 frames), refl)
number_alike s text _ frames drafts terms made d n k = tt

-- a step of a parser is one of the machine
pub step_in : (s : Scale) (text : List ℕ) (p : Parse) (t : Code) → IsKnown text t → bad_in p.place t ≡ false
    → option_map (state_in s) (parse_step text p t) ≡ step s (state_in s p) (plain text t)
step_in s text p t k b = step_same s text p.frames p.drafts p.terms p.made p.place t k b

-- where the machine has read a formula as the parser did, the parser keeps the formula's nodes
pub read_formula : (before : List Token) (p : Parse) → ((s : Scale) → run s before ≡ Some (state_in s p)) → MayEnd before → (s : Scale)
    → IsFormula s 0 (reverse before) (nodes_in s (folded_drafts 1 p.frames p.drafts))
read_formula before p runs m s =
    let x = rescaled m.1 s in
    let (q, e, h) = formula_runs s x.1 in
    let same : q ≡ state_in s p = same_Some q (state_in s p) (sym e ∙ (sym (run_go s before) ∙ runs s)) in
    let n : nodes_in s (folded_drafts 1 p.frames p.drafts) ≡ x.0 =
    nodes_same s 1 p.frames p.drafts ∙ (ap (λ z. nodes_after 1 z.frames z.nodes) (sym same) ∙ h.node) in
    rw n x.1
