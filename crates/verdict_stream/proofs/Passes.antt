-- What the root of a network gives out in one pass of a stream: a row or the end, and a step of every node.
use Rattle.std.proofs.Common.{◌≡◌, ℕ, suc, ◌+◌, ◌-◌, ◌<◌, ◌≤◌, Bool, true, false, not, ◌&&◌, List, [], ◌∷◌, ◌++◌}
use Rattle.std.proofs.Common.{length, take, drop, refl, sym, ap, ◌∙◌, subst, arith, append-nil, append_assoc}
use Rattle.std.proofs.Common.{take-append-drop, length-drop, Some, None, ℤ, ◌<ℤ◌, if◌then◌else◌, codes, length-append}
use Rattle.std.specs.Prelude.{MatchBool, int_lt, cond, ◌==◌, ◌≢◌, slice_index_or}
use Rattle.std.proofs.lemmas.Int.{ints}
use Rattle.std.proofs.lemmas.List.{length-take-le}
use Rattle.std.proofs.Math.Seq.{get_or-append_seam}
use Rattle.stl_syntax.specs.Trace.{Header, Trace, first_time}
use Rattle.stl_syntax.specs.Formula.{subformula, root}
use Rattle.rational.specs.Time.{Rational, ◌≈◌}
use Rattle.rational.proofs.Order.{same_sym, same_trans}
use Rattle.rational.proofs.Tests.{int_order}
use Rattle.stl_syntax.specs.Verdicts.{Describes, AreAlike}
use Rattle.stl_syntax.specs.Texts.{IsNumberText, AreVerdictLines, bool_text, newline}
use Rattle.stl_syntax.specs.declared.scale.Scale.{Scale}
use Rattle.stl_syntax.proofs.VerdictsLaw.{Describes-unique, alike_length, none_alike, alike_append}
use Rattle.stl_syntax.specs.Stream.{IsStretchText, IsNewText, after}
use Rattle.stl_syntax.specs.declared.items.Verdict.{Verdict}
use Rattle.stl_syntax.specs.declared.node.Node.{Node}
use Rattle.stl_syntax.specs.declared.node.Node.TheVariants.{Const}
use Rattle.online_nodes.specs.Network.{Event, step, take as taken, initial, Emitted, Front, State, shown, same_front, is_atom}
use Rattle.online_nodes.specs.Network.{node_is_atom, allowed_at, answered, after_event, state_from, IsRunFrom, EmittedAt, EmittedFrom}
use Rattle.online_nodes.specs.Driven.{steps_of}
use Rattle.online_nodes.specs.Needed.{IsTaken, none as none_taken, other, next, nothing_left}

module _ (nodes : List Node) (header : Header) where
  -- the state after two lists of events
  pub state_after : (s : State) (a b : List Event) → state_from nodes s (a ++ b) ≡ state_from nodes (state_from nodes s a) b
  state_after s [] b = refl
  state_after s (e ∷ a) b = state_after (after_event nodes s e) a b

  -- what a node gives out over two lists of events
  pub record Parted (i : ℕ) (s : State) (a b : List Event) (vs : List Verdict) : Type 0 where
    -- what the first events give out
    pub first : List Verdict
    -- and the later ones
    pub beyond : List Verdict
    -- the first by the first events
    pub first_is : EmittedFrom nodes header i s a first
    -- the others by the later ones
    pub beyond_is : EmittedFrom nodes header i (state_from nodes s a) b beyond
    -- both together are all
    pub is : vs ≡ first ++ beyond

  -- what a run gives out is parted where its events are
  pub parted : (i : ℕ) (s : State) (a b : List Event) (vs : List Verdict) → EmittedFrom nodes header i s (a ++ b) vs → Parted i s a b vs
  parted i s [] b vs em = record { first = []; beyond = vs; first_is = refl; beyond_is = em; is = refl }
  parted i s (e ∷ a) b vs (here, later, at, more, eq) =
      let p = parted i (after_event nodes s e) a b later more in
      record {
        first = here ++ p.first;
        beyond = p.beyond;
        first_is = (here, p.first, at, p.first_is, refl);
        beyond_is = p.beyond_is;
        is = eq ∙ ap (λ l. here ++ l) p.is ∙ sym (append_assoc here p.first p.beyond);
      }

  -- a run goes on from the state that a part of it leaves
  pub run_split : (s : State) (a b : List Event) → IsRunFrom nodes header s (a ++ b)
      → IsRunFrom nodes header s a × IsRunFrom nodes header (state_from nodes s a) b
  run_split s [] b h = (tt, h)
  run_split s (e ∷ a) b h = let x = run_split (after_event nodes s e) a b h.1 in ((h.0, x.0), x.1)

  -- steps of some nodes, and of others after them
  pub steps_append : (i : ℕ) (a b : List Node) → steps_of i (a ++ b) ≡ steps_of i a ++ steps_of (i + length a) b
  steps_append i [] b = ap (λ k. steps_of k b) (omega arith)
  steps_append i (n ∷ a) b =
      let on = steps_append (suc i) a b ∙ ap (λ k. steps_of (suc i) a ++ steps_of k b) (omega arith) in
      elim (is_atom n) as (λ t. cond t (steps_of (suc i) (a ++ b)) (step i ∷ steps_of (suc i) (a ++ b)) ≡ cond t
      (steps_of (suc i) a) (step i ∷ steps_of (suc i) a) ++ steps_of (i + length (n ∷ a)) b) [
        | true ↦ on
        | false ↦ ap (λ l. step i ∷ l) on
      ]

  module _ (k : ℕ) where
    -- what a move of the front from `old` to `new` gives out
    abbrev pub Gives : Trace → Front → Front → List Verdict → Type 0
    Gives tr old None vs = vs ≡ []
    Gives tr old (Some f) vs = MatchBool (same_front old (Some f)) (vs ≡ []) (Describes vs (subformula nodes k) tr (answered (first_time tr.rows) old f))

    abbrev GivesOut : State → State → List Verdict → Front → Type 0
    GivesOut old new vs None = vs ≡ []
    GivesOut old new vs (Some f) =
        MatchBool (same_front (shown old k) (Some f)) (vs ≡ [])
        (Describes vs (subformula nodes k) (record { header = header; rows = new.rows }) (answered (first_time new.rows) (shown old k) f))

    -- what an event gives out leads from what was shown to what is
    pub given_by : (old new : State) (vs : List Verdict) → EmittedAt nodes header k old new vs
        → Gives (record { header = header; rows = new.rows }) (shown old k) (shown new k) vs
    given_by old new vs h = by_front (shown new k) h
      where
        by_front : (o : Front) → GivesOut old new vs o → Gives (record { header = header; rows = new.rows }) (shown old k) o vs
        by_front None h = h
        by_front (Some f) h = h

    same_number : (f : ℤ) → same_front (Some f) (Some f) ≡ true
    same_number f = by_test (int_lt f f) refl
      where
        by_test : (t : Bool) → int_lt f f ≡ t → (not (int_lt f f) && not (int_lt f f)) ≡ true
        by_test true e = absurd (let h : f <ℤ f = int_order f f true e in omega (arith, ints))
        by_test false e = subst (λ t. (not t && not t) ≡ true) (sym e) refl

    -- a front that stays gives out nothing
    stays_silent : (tr : Trace) (old new : Front) (vs : List Verdict) → old ≡ new → Gives tr old new vs → vs ≡ []
    stays_silent tr old None vs e g = g
    stays_silent tr old (Some f) vs e g =
        subst (λ t. MatchBool t (vs ≡ []) (Describes vs (subformula nodes k) tr (answered (first_time tr.rows) old f)))
        (ap (λ o. same_front o (Some f)) e ∙ same_number f) g

    -- events that leave what the node shows
    abbrev pub AreQuiet : State → List Event → Type 0
    AreQuiet s [] = Unit {0}
    AreQuiet s (e ∷ events) = (shown s k ≡ shown (after_event nodes s e) k) × AreQuiet (after_event nodes s e) events

    -- quiet events leave what is shown
    pub quiet_shown : (s : State) (events : List Event) → AreQuiet s events → shown s k ≡ shown (state_from nodes s events) k
    quiet_shown s [] q = refl
    quiet_shown s (e ∷ events) (h, q) = h ∙ quiet_shown (after_event nodes s e) events q

    -- quiet events give nothing out
    pub quiet_gives : (s : State) (events : List Event) (vs : List Verdict) → AreQuiet s events → EmittedFrom nodes header k s events vs → vs ≡ []
    quiet_gives s [] vs q em = em
    quiet_gives s (e ∷ events) vs (h, q) (here, later, at, more, eq) =
        let none = stays_silent (record { header = header; rows = (after_event nodes s e).rows }) (shown s k)
        (shown (after_event nodes s e) k) here h (given_by s (after_event nodes s e) here at) in
        let rest = quiet_gives (after_event nodes s e) events later q more in
        eq ∙ ap (λ l. l ++ later) none ∙ rest

    -- steps of nodes before it are such
    step_quiet : (i : ℕ) (s : State) → i < k → shown s k ≡ shown (after_event nodes s (step i)) k
    step_quiet i s l = by_test (k == i) refl
      where
        same : (g : Front) → g ≡ s.fronts k → shown s k ≡ shown (record { rows = s.rows; closed = s.closed; fronts = λ j. g }) k
        same g e = subst (λ (o : Front). shown s k ≡ shown (record { rows = s.rows; closed = s.closed; fronts = λ j. o }) k) (sym e) refl

        by_test : (t : Bool) → (k == i) ≡ t → shown s k ≡ shown (after_event nodes s (step i)) k
        by_test true e = absurd (let d : k ≡ i = grind (arith, e) in omega arith)
        by_test false e = same ((after_event nodes s (step i)).fronts k) (ap (λ t. cond t (allowed_at nodes s i) (s.fronts k)) e)

    -- steps of nodes before it are quiet at a node
    pub steps_quiet : (i : ℕ) (rest : List Node) (s : State) → i + length rest ≤ k → AreQuiet s (steps_of i rest)
    steps_quiet i [] s l = tt
    steps_quiet i (n ∷ rest) s l =
        elim (is_atom n) as (λ t. AreQuiet s (cond t (steps_of (suc i) rest) (step i ∷ steps_of (suc i) rest))) [
          | true ↦ steps_quiet (suc i) rest s (omega arith)
          | false ↦ (step_quiet i s (omega arith), steps_quiet (suc i) rest (after_event nodes s (step i)) (omega arith))
        ]

  -- steps leave the rows
  pub rows_stay : (i : ℕ) (rest : List Node) (s : State) → s.rows ≡ (state_from nodes s (steps_of i rest)).rows
  rows_stay i [] s = refl
  rows_stay i (n ∷ rest) s =
      elim (is_atom n) as (λ t. s.rows ≡ (state_from nodes s (cond t (steps_of (suc i) rest) (step i ∷ steps_of (suc i) rest))).rows) [
        | true ↦ rows_stay (suc i) rest s
        | false ↦ rows_stay (suc i) rest (after_event nodes s (step i))
      ]

  -- what the root gives out in a pass from one state to another: by what it shows before and after
  pub record PassGives (before after : State) (vs : List Verdict) : Type 0 where
    -- a pass gives out what leads from what was shown to what is
    pub gives : Gives (length nodes - 1) (record { header = header; rows = after.rows }) (shown before (length nodes - 1)) (shown after (length nodes - 1)) vs

  -- the last node
  record Last : Type 0 where
    init : List Node
    last : Node
    parts : nodes ≡ init ++ last ∷ []
    size : length init ≡ length nodes - 1
    at : slice_index_or nodes (length nodes - 1) (Const false) ≡ last

  last_node : 0 < length nodes → Last
  last_node some = by_rest (drop k nodes) refl
    where
      k : ℕ
      k = length nodes - 1

      by_rest : (rest : List Node) → drop k nodes ≡ rest → Last
      by_rest [] e = absurd (omega (arith, some, length-drop k nodes, ap length e))
      by_rest (n ∷ m ∷ rest) e = absurd (omega (arith, some, length-drop k nodes, ap length e))
      by_rest (n ∷ []) e =
          let parts : nodes ≡ take k nodes ++ n ∷ [] = sym (take-append-drop k nodes) ∙ ap (λ l. take k nodes ++ l) e in
          let size : length (take k nodes) ≡ k = length-take-le k nodes (omega arith) in
          record {
            init = take k nodes;
            last = n;
            parts = parts;
            size = size;
            at = subst (λ j. slice_index_or nodes j (Const false) ≡ n) size
                (subst (λ l. slice_index_or l (length (take k nodes)) (Const false) ≡ n) (sym parts) (get_or-append_seam (take k nodes) n [] (Const false)));
          }

  -- the steps of all nodes are quiet at a root that is an atom
  pub atom_steps : 0 < length nodes → node_is_atom nodes (length nodes - 1) ≡ true → (s : State) → AreQuiet (length nodes - 1) s (steps_of 0 nodes)
  atom_steps some atom s =
      subst (λ es. AreQuiet (length nodes - 1) s es) (sym (ap (steps_of 0) l.parts ∙ steps_append 0 l.init (l.last ∷ [])
      ∙ ap (λ t. steps_of 0 l.init ++ cond t [] (step (0 + length l.init) ∷ [])) (sym (ap is_atom l.at) ∙ atom) ∙ append-nil (steps_of 0 l.init)))
      (steps_quiet (length nodes - 1) 0 l.init s (omega (arith, l.size)))
    where
      l : Last
      l = last_node some

  -- an event that leaves what the root shows, unless it is an atom
  abbrev pub LeavesRoot : State → Event → Type 0
  LeavesRoot s e = node_is_atom nodes (length nodes - 1) ≡ false → shown s (length nodes - 1) ≡ shown (after_event nodes s e) (length nodes - 1)

  -- a pass: the event and the steps
  pub pass_gives : 0 < length nodes → (s : State) (e : Event) (vs : List Verdict) → LeavesRoot s e
      → EmittedFrom nodes header (length nodes - 1) s (e ∷ steps_of 0 nodes) vs
      → PassGives s (state_from nodes s (e ∷ steps_of 0 nodes)) vs
  pass_gives some s e vs leaves (here, later, at, more, eq) = by_atom (is_atom l.last) refl
    where
      k : ℕ
      k = length nodes - 1

      l : Last
      l = last_node some

      s1 : State
      s1 = after_event nodes s e

      split : steps_of 0 nodes ≡ steps_of 0 l.init ++ steps_of k (l.last ∷ [])
      split = ap (steps_of 0) l.parts ∙ steps_append 0 l.init (l.last ∷ []) ∙ ap (λ j. steps_of 0 l.init ++ steps_of j (l.last ∷ [])) (omega (arith, l.size))

      calm : AreQuiet k s1 (steps_of 0 l.init)
      calm = steps_quiet k 0 l.init s1 (omega (arith, l.size))

      by_atom : (t : Bool) → is_atom l.last ≡ t → PassGives s (state_from nodes s (e ∷ steps_of 0 nodes)) vs
      by_atom true a =
          let steps : steps_of 0 nodes ≡ steps_of 0 l.init =
          split ∙ ap (λ t. steps_of 0 l.init ++ cond t [] (step k ∷ [])) a ∙ append-nil (steps_of 0 l.init) in
          let none = quiet_gives k s1 (steps_of 0 l.init) later calm (subst (λ es. EmittedFrom nodes header k s1 es later) steps more) in
          record {
            gives = subst (λ ws. Gives k (record { header = header; rows = (state_from nodes s1 (steps_of 0 nodes)).rows }) (shown s k)
                (shown (state_from nodes s1 (steps_of 0 nodes)) k) ws) (sym (eq ∙ ap (λ ws. here ++ ws) none ∙ append-nil here))
                (subst (λ es. Gives k (record { header = header; rows = (state_from nodes s1 es).rows }) (shown s k)
                (shown (state_from nodes s1 es) k) here) (sym steps)
                (subst (λ rows. Gives k (record { header = header; rows = rows }) (shown s k) (shown (state_from nodes s1 (steps_of 0 l.init)) k) here)
                (rows_stay 0 l.init s1)
                (subst (λ o. Gives k (record { header = header; rows = s1.rows }) (shown s k) o here)
                (quiet_shown k s1 (steps_of 0 l.init) calm) (given_by k s s1 here at))));
          }
      by_atom false a =
          let steps : steps_of 0 nodes ≡ steps_of 0 l.init ++ step k ∷ [] = split ∙ ap (λ t. steps_of 0 l.init ++ cond t [] (step k ∷ [])) a in
          let s2 = state_from nodes s1 (steps_of 0 l.init) in
          let p = parted k s1 (steps_of 0 l.init) (step k ∷ []) later (subst (λ es. EmittedFrom nodes header k s1 es later) steps more) in
          let (vs', none, at', nil, is) = p.beyond_is in
          let other : node_is_atom nodes k ≡ false = ap is_atom l.at ∙ a in
          let first = quiet_gives k s1 (steps_of 0 l.init) p.first calm p.first_is in
          let silent = stays_silent k (record { header = header; rows = s1.rows }) (shown s k) (shown s1 k) here (leaves other) (given_by k s s1 here at) in
          let last : state_from nodes s1 (steps_of 0 nodes) ≡ after_event nodes s2 (step k) =
          ap (state_from nodes s1) steps ∙ state_after s1 (steps_of 0 l.init) (step k ∷ []) in
          let all : vs ≡ vs' = eq ∙ ap (λ ws. ws ++ later) silent ∙ p.is ∙ ap (λ ws. ws ++ p.beyond) first ∙ is ∙ ap (λ ws. vs' ++ ws) nil ∙ append-nil vs' in
          record {
            gives = subst (λ ws. Gives k (record { header = header; rows = (state_from nodes s1 (steps_of 0 nodes)).rows })
                (shown s k) (shown (state_from nodes s1 (steps_of 0 nodes)) k) ws) (sym all)
                (subst (λ (z : State). Gives k (record { header = header; rows = z.rows }) (shown s k) (shown z k) vs') (sym last)
                (subst (λ o. Gives k (record { header = header; rows = s2.rows }) o (shown (after_event nodes s2 (step k)) k) vs')
                (sym (leaves other ∙ quiet_shown k s1 (steps_of 0 l.init) calm))
                (given_by k s2 (after_event nodes s2 (step k)) vs' at')));
          }

-- ---- the text of what is given out

-- what a move gives out is the text of what the new front answers beyond the old one
pub text_of_given : (nodes : List Node) (tr : Trace) (old new : Front) (vs : List Verdict) (text : List ℕ)
    → ((g f : ℤ) → old ≡ Some g → new ≡ Some f → int_lt f g ≡ false)
    → Gives nodes tr.header (length nodes - 1) tr old new vs → AreVerdictLines tr.header.scale vs text → IsNewText (root nodes) tr old new text
text_of_given nodes tr old None vs text rise gives lines = subst (λ l. AreVerdictLines tr.header.scale l text) gives lines
text_of_given nodes tr None (Some f) vs text rise gives lines = (vs, gives, lines)
text_of_given nodes tr (Some g) (Some f) vs text rise gives lines = by_test (int_lt g f) refl
  where
    by_test : (t : Bool) → int_lt g f ≡ t → IsNewText (root nodes) tr (Some g) (Some f) text
    by_test true e =
        let told = subst (λ t.
        MatchBool (not t && not (int_lt f g)) (vs ≡ []) (Describes vs (root nodes) tr (answered (first_time tr.rows) (Some g) f))) e gives in
        subst (λ t. MatchBool t (IsStretchText (root nodes) tr (after (first_time tr.rows) (Some g) f) text) (text ≡ [])) (sym e) (vs, told, lines)
    by_test false e =
        let none : vs ≡ [] =
        subst (λ t. MatchBool (not t) (vs ≡ []) (Describes vs (root nodes) tr (answered (first_time tr.rows) (Some g) f))) (rise g f refl refl)
        (subst (λ t. MatchBool (not t && not (int_lt f g)) (vs ≡ []) (Describes vs (root nodes) tr (answered (first_time tr.rows) (Some g) f))) e gives) in
        subst (λ t. MatchBool t (IsStretchText (root nodes) tr (after (first_time tr.rows) (Some g) f) text) (text ≡ [])) (sym e)
        (subst (λ l. AreVerdictLines tr.header.scale l text) none lines)

-- verdicts that are alike have the lines of one another
pub lines_alike : (scale : Scale) (vs ws : List Verdict) (text : List ℕ) → AreAlike vs ws → AreVerdictLines scale vs text → AreVerdictLines scale ws text
lines_alike scale [] [] text e h = h
lines_alike scale [] (w ∷ ws) text e h = absurd e
lines_alike scale (v ∷ vs) [] text e h = absurd e
lines_alike scale (v ∷ vs) (w ∷ ws) text (begin, end, holds, e) (here, later, (on, on_is, here_is), rest, is) = (
  here,
  later,
  (
    on,
    record {
      from = on_is.from;
      to = on_is.to;
      from_is = number_alike begin.time on_is.from_is;
      to_is = number_alike end.time on_is.to_is;
      is = on_is.is ∙ ap
          (λ b. (if b then codes "[" else codes "(") ++ on_is.from ++ codes "," ++ on_is.to ++ (if v.on.to_in then codes "]" else codes ")")) begin.inside
          ∙ ap (λ b. (if w.on.from_in then codes "[" else codes "(") ++ on_is.from ++ codes "," ++ on_is.to ++ (if b then codes "]" else codes ")")) end.inside;
    },
    here_is ∙ ap (λ b. on ++ codes " " ++ bool_text b ++ newline) holds,
  ),
  lines_alike scale vs ws later e rest,
  is,
)
  where
    number_alike : {digits : ℕ} {t u : Rational} {x : List ℕ} → t ≈ u → IsNumberText digits t x → IsNumberText digits u x
    number_alike same n = record { num = n.num; den = n.den; lowest = n.lowest; same = same_trans (same_sym same) n.same; is = n.is }

-- ---- what a node gives out in a run is one list, but for the pairs by which times are written

module _ (nodes : List Node) (header : Header) (k : ℕ) where
  gives_alike : (tr : Trace) (old new : Front) (vs ws : List Verdict) → Gives nodes header k tr old new vs → Gives nodes header k tr old new ws → AreAlike vs ws
  gives_alike tr old None vs ws a b = none_alike vs ws a b
  gives_alike tr old (Some f) vs ws a b = by_test (same_front old (Some f)) a b
    where
      by_test : (t : Bool) → MatchBool t (vs ≡ []) (Describes vs (subformula nodes k) tr (answered (first_time tr.rows) old f))
          → MatchBool t (ws ≡ []) (Describes ws (subformula nodes k) tr (answered (first_time tr.rows) old f)) → AreAlike vs ws
      by_test true a b = none_alike vs ws a b
      by_test false a b = Describes-unique (subformula nodes k) tr _ vs ws a b

  given_alike : (s : State) (events : List Event) (vs ws : List Verdict) → EmittedFrom nodes header k s events vs
      → EmittedFrom nodes header k s events ws → AreAlike vs ws
  given_alike s [] vs ws a b = none_alike vs ws a b
  given_alike s (e ∷ events) vs ws (here, later, at, more, eq) (here', later', at', more', eq') =
      subst (λ l. AreAlike l ws) (sym eq) (subst (λ l. AreAlike (here ++ later) l) (sym eq')
      (alike_append here later here' later'
      (gives_alike (record { header = header; rows = (after_event nodes s e).rows }) (shown s k) (shown (after_event nodes s e) k) here here'
      (given_by nodes header k s (after_event nodes s e) here at) (given_by nodes header k s (after_event nodes s e) here' at'))
      (given_alike (after_event nodes s e) events later later' more more')))

  -- what a run gives out is alike each time
  pub emitted_alike : (events : List Event) (vs ws : List Verdict) → Emitted nodes header events k vs → Emitted nodes header events k ws → AreAlike vs ws
  emitted_alike events vs ws a b = given_alike initial events vs ws a b

-- what stands before the last of a list, and the last
push_once : (a b : List Event) (x y : Event) → a ++ x ∷ [] ≡ b ++ y ∷ [] → (a ≡ b) × (x ≡ y)
push_once [] [] x y e = (refl, (let h : x ≡ y = cc in h))
push_once [] (z ∷ b) x y e = absurd (omega (arith, ap length e, length-append b (y ∷ [])))
push_once (z ∷ a) [] x y e = absurd (omega (arith, ap length e, length-append a (x ∷ [])))
push_once (z ∷ a) (w ∷ b) x y e =
    let (front, last) = push_once a b x y (let h : a ++ x ∷ [] ≡ b ++ y ∷ [] = cc in h) in
    (ap (λ l. z ∷ l) front ∙ ap (λ v. v ∷ b) (let h : z ≡ w = cc in h), last)

-- how many verdicts were taken is one number
module _ (nodes : List Node) (header : Header) where
  -- what the last event of a run is to a taker
  data LastTaken (events : List Event) (e : Event) (n : ℕ) : Type 0 where
    by_other : e ≢ taken → IsTaken nodes header events n → LastTaken events e n
    by_next : (m : ℕ) (vs : List Verdict) → e ≡ taken → n ≡ suc m → Emitted nodes header events (length nodes - 1) vs
        → m < length vs → IsTaken nodes header events m → LastTaken events e n
    by_nothing : (vs : List Verdict) → e ≡ taken → Emitted nodes header events (length nodes - 1) vs → n ≡ length vs
        → IsTaken nodes header events n → LastTaken events e n

  last_taken : {all : List Event} {n : ℕ} → IsTaken nodes header all n → (events : List Event) (e : Event) → all ≡ events ++ e ∷ [] → LastTaken events e n
  last_taken none_taken events e same = absurd (omega (arith, ap length same, length-append events (e ∷ [])))
  last_taken {n = n} (other {events = before} d ne t) events e same =
      let (front, at_end) = push_once before events d e same in
      by_other (λ x. ne (at_end ∙ x)) (subst (λ l. IsTaken nodes header l n) front t)
  last_taken (next {events = before} {n = m} vs em l t) events e same =
      let (front, at_end) = push_once before events taken e same in
      by_next m vs (sym at_end) refl (subst (λ l. Emitted nodes header l (length nodes - 1) vs) front em) l (subst (λ l. IsTaken nodes header l m) front t)
  last_taken {n = n} (nothing_left {events = before} vs em l t) events e same =
      let (front, at_end) = push_once before events taken e same in
      by_nothing vs (sym at_end) (subst (λ l. Emitted nodes header l (length nodes - 1) vs) front em) l (subst (λ l. IsTaken nodes header l n) front t)

  no_taken : {all : List Event} {n : ℕ} → IsTaken nodes header all n → all ≡ [] → n ≡ 0
  no_taken none_taken e = refl
  no_taken (other {events = before} d ne t) e = absurd (omega (arith, ap length e, length-append before (d ∷ [])))
  no_taken (next {events = before} vs em l t) e = absurd (omega (arith, ap length e, length-append before (taken ∷ [])))
  no_taken (nothing_left {events = before} vs em l t) e = absurd (omega (arith, ap length e, length-append before (taken ∷ [])))

  by_other_end : {events : List Event} {e : Event} (n m : ℕ) → e ≢ taken → LastTaken events e m → (IsTaken nodes header events m → n ≡ m) → n ≡ m
  by_other_end n m ne (by_other ne' u) on = on u
  by_other_end n m ne (by_next j vs e s em l u) on = absurd (ne e)
  by_other_end n m ne (by_nothing vs e em s u) on = absurd (ne e)

  by_next_end : {events : List Event} (n m : ℕ) (vs : List Verdict) → Emitted nodes header events (length nodes - 1) vs
      → n < length vs → LastTaken events taken m
      → ((j : ℕ) → IsTaken nodes header events j → n ≡ j) → suc n ≡ m
  by_next_end n m vs em l (by_other ne' u) on = absurd (ne' refl)
  by_next_end n m vs em l (by_next j ws e s em' l' u) on = ap suc (on j u) ∙ sym s
  by_next_end {events} n m vs em l (by_nothing ws e em' s u) on =
      let same = on m u in
      absurd (omega (arith, same, s, l, alike_length vs ws (emitted_alike nodes header (length nodes - 1) events vs ws em em')))

  by_nothing_end : {events : List Event} (n m : ℕ) (vs : List Verdict) → Emitted nodes header events (length nodes - 1) vs
      → n ≡ length vs → LastTaken events taken m
      → ((j : ℕ) → IsTaken nodes header events j → n ≡ j) → n ≡ m
  by_nothing_end n m vs em l (by_other ne' u) on = absurd (ne' refl)
  by_nothing_end {events} n m vs em l (by_next j ws e s em' l' u) on =
      let same = on j u in
      absurd (omega (arith, same, l, l', alike_length vs ws (emitted_alike nodes header (length nodes - 1) events vs ws em em')))
  by_nothing_end n m vs em l (by_nothing ws e em' s u) on = on m u

  -- a run has one number of takes
  pub taken_once : {events : List Event} {n : ℕ} (m : ℕ) → IsTaken nodes header events n → IsTaken nodes header events m → n ≡ m
  taken_once m none_taken b = sym (no_taken b refl)
  taken_once m (other {events = before} {n = n} d ne t) b = by_other_end n m ne (last_taken b before d refl) (λ u. taken_once m t u)
  taken_once m (next {events = before} {n = n} vs em l t) b = by_next_end n m vs em l (last_taken b before taken refl) (λ j u. taken_once j t u)
  taken_once m (nothing_left {events = before} {n = n} vs em l t) b = by_nothing_end n m vs em l (last_taken b before taken refl) (λ j u. taken_once j t u)
