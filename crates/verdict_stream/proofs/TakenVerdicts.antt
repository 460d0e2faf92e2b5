-- What is taken of the root's verdicts after a pass of a stream, one take after the other.
use Rattle.std.proofs.Common.{◌≡◌, inl, inr, ℕ, zero, suc, ◌+◌, ◌-◌, ◌<◌, ◌≤◌, Bool, true, false, List, [], ◌∷◌, ◌++◌, length}
use Rattle.std.proofs.Common.{take, drop, refl, sym, ap, ◌∙◌, subst, arith, append-nil, append_assoc, length-drop, Some, None}
use Rattle.std.specs.Prelude.{◌↔◌, if◌then◌else◌, IsTrue, cond, slice_get, slice_index_or}
use Rattle.std.proofs.lemmas.Bool.{false≢true}
use Rattle.std.proofs.lemmas.List.{take_more, drop-take, drop-append-le, length-take-le}
use Rattle.std.proofs.lemmas.Option.{slice_get_within, slice_get_cases, same_Some, none-some}
use Rattle.rational.proofs.Lists.{take_on}
use Rattle.stl_syntax.specs.Formula.{Formula}
use Rattle.stl_syntax.specs.Trace.{Header}
use Rattle.stl_syntax.specs.Verdicts.{AreAlike}
use Rattle.stl_syntax.specs.Texts.{AreVerdictLines, IsVerdictLine}
use Rattle.stl_syntax.specs.declared.items.Verdict.{Verdict}
use Rattle.stl_syntax.specs.declared.node.Node.{Node}
use Rattle.stl_syntax.specs.declared.node.Node.TheVariants.{Const}
use Rattle.stl_syntax.specs.declared.scale.Scale.{Scale}
use Rattle.stl_syntax.proofs.VerdictsLaw.{alike_length, alike_append}
use Rattle.online_nodes.specs.Network.{Event, step, take as taken, node_is_atom, state, IsReady, Emitted}
use Rattle.online_nodes.specs.Needed.{IsTaken, next as next_taken}
use Rattle.online_nodes.specs.Driven.{steps_of, takes}
use Rattle.online_nodes.specs.Held.{held_at}
use Rattle.online_nodes.proofs.EmittedLaw.{taken_within}
use Rattle.online_nodes.proofs.FrameLaw.{no_more_by_take}
use Rattle.online_net.specs.Nets.{Parts, Stands, IsNext, IsStepped}
use Rattle.answer_lines.specs.Appended.{Grew}
use Rattle.verdict_stream.specs.Watching.{first_truth, kept_truth, Pass, CanTake, HasTaken, HasGiven}
use Rattle.verdict_stream.specs.declared.watcher.Network.{Network}
use Rattle.verdict_stream.proofs.CutVerdicts.{lines_more}
use Rattle.verdict_stream.proofs.Passes.{steps_append, emitted_alike, taken_once, lines_alike}

-- ---- lists

plus_suc : (k n : ℕ) → k + suc n ≡ k + n + 1
plus_suc k n = omega arith

suc_plus : (k n : ℕ) → suc (k + n) ≡ k + suc n
suc_plus k n = omega arith

plus_none : (k : ℕ) → k ≡ k + 0
plus_none k = omega arith

within_none : (k l : ℕ) → k ≤ l → k + 0 ≤ l
within_none k l h = omega (arith, h)

within_suc : (k n l : ℕ) → k + n < l → k + suc n ≤ l
within_suc k n l h = omega (arith, h)

-- of m verdicts one more is taken
fewer_left : {a b e f s t : ℕ} (n m : ℕ) → a ≡ e - s → b ≡ f - t → s ≡ n → t ≡ suc n → e ≡ m → f ≡ m → n < m → b < a
fewer_left n m x y old new size size' within = omega (arith, x, y, old, new, size, size', within)

-- where nothing stands at the next place all are taken
all_of : (t l g k : ℕ) → t ≡ k → l ≡ g → l ≤ t → k ≤ g → k ≡ g
all_of t l g k same size past within = omega (arith, same, size, past, within)

-- one more of what stands behind the first k
take_behind : {X : Type 0} (xs : List X) (k n : ℕ) (x : X) → slice_get xs (k + n) ≡ Some x
    → take (suc n) (drop k xs) ≡ take n (drop k xs) ++ x ∷ []
take_behind xs k n x h =
    let within : k + n < length xs = slice_get_within xs (k + n) x h in
    let size : length (take (k + n) xs) ≡ k + n = length-take-le (k + n) xs (omega (arith, within)) in
    let same : k + suc n ≡ k + n + 1 = plus_suc k n in
    sym (drop-take k (suc n) xs)
    ∙ ap (λ j. drop k (take j xs)) same
    ∙ ap (drop k) (take_on xs (k + n) x h)
    ∙ drop-append-le k (take (k + n) xs) (x ∷ []) (omega (arith, size))
    ∙ ap (λ l. l ++ x ∷ []) (drop-take k n xs)

-- where nothing stands the list has ended
past_end : {X : Type 0} (xs : List X) (i : ℕ) → slice_get xs i ≡ None → length xs ≤ i
past_end xs i e = elim (slice_get_cases xs i).1 [ inl s ↦ absurd (none-some s.0 (sym e ∙ s.2)) | inr n ↦ n.0 ]

-- ---- steps

-- a formula that is an atom alone has no steps
pub no_steps : (nodes : List Node) → length nodes ≤ 1 → node_is_atom nodes (length nodes - 1) ≡ true → steps_of 0 nodes ≡ []
no_steps [] few e = refl
no_steps (n ∷ []) few e = ap (λ b. if b then [] else step 0 ∷ []) e
no_steps (n ∷ m ∷ nodes) few e = absurd (omega (arith, few))

-- ---- verdicts

first_more : (vs : List Verdict) (v : Verdict) → first_truth (vs ++ v ∷ []) ≡ kept_truth (first_truth vs) v.holds
first_more [] v = refl
first_more (w ∷ vs) v = refl

-- lists that are alike begin with one truth
pub first_alike : (vs ws : List Verdict) → AreAlike vs ws → first_truth vs ≡ first_truth ws
first_alike [] [] e = refl
first_alike [] (w ∷ ws) e = absurd e
first_alike (v ∷ vs) [] e = absurd e
first_alike (v ∷ vs) (w ∷ ws) e = ap (λ (b : Bool). Some b) e.2

line_alike : (scale : Scale) (v w : Verdict) (line : List ℕ) → AreAlike (v ∷ []) (w ∷ []) → IsVerdictLine scale v line → IsVerdictLine scale w line
line_alike scale v w line same is =
    let (here, later, first, none, e) = lines_alike scale (v ∷ []) (w ∷ []) line same (line, [], is, refl, sym (append-nil line)) in
    subst (λ t. IsVerdictLine scale w t) (sym (e ∙ ap (λ t. here ++ t) none ∙ append-nil here)) first

-- an element of a list that is like another
alike_at : (vs ws : List Verdict) (i : ℕ) (v : Verdict) → AreAlike vs ws → slice_get vs i ≡ Some v
    → (w : Verdict) × (slice_get ws i ≡ Some w) × AreAlike (v ∷ []) (w ∷ [])
alike_at [] ws i v e at = absurd (none-some v at)
alike_at (x ∷ vs) [] i v e at = absurd e
alike_at (x ∷ vs) (y ∷ ws) zero v e at =
    let same : x ≡ v = same_Some x v at in (y, refl, subst (λ (z : Verdict). AreAlike (z ∷ []) (y ∷ [])) same (e.0, e.1, e.2, tt))
alike_at (x ∷ vs) (y ∷ ws) (suc i) v e at = alike_at vs ws i v e.3 at

-- ---- takes

takes_more : (n : ℕ) → takes n ++ taken ∷ [] ≡ takes (suc n)
takes_more zero = refl
takes_more (suc n) = ap (λ l. taken ∷ l) (takes_more n)

takes_on : (events : List Event) (n : ℕ) → (events ++ takes n) ++ taken ∷ [] ≡ events ++ takes (suc n)
takes_on events n = append_assoc events (takes n) (taken ∷ []) ∙ ap (λ l. events ++ l) (takes_more n)

module _ (nodes : List Node) (header : Header) where
  -- what was given out over events was given out over them and takes
  pub emitted_takes : (j : ℕ) (events : List Event) (n : ℕ) (vs : List Verdict) → Emitted nodes header events j vs
      → Emitted nodes header (events ++ takes n) j vs
  emitted_takes j events zero vs em = subst (λ l. Emitted nodes header l j vs) (sym (append-nil events)) em
  emitted_takes j events (suc n) vs em =
      subst (λ l. Emitted nodes header l j vs) (append_assoc events (taken ∷ []) (takes n))
      (emitted_takes j (events ++ taken ∷ []) n vs (no_more_by_take nodes header events j vs em))

  -- a take that finds a verdict leaves fewer on the root's edge
  held_falls : (events : List Event) (net net' : Parts) (v : Verdict) → Stands nodes header net events → IsNext nodes header events (Some v)
      → Stands nodes header net' (events ++ taken ∷ [])
      → length (held_at net'.edges (length nodes - 1)) < length (held_at net.edges (length nodes - 1))
  held_falls events net net' v s next s' =
      let r = s.shows.root in
      let r' = s'.shows.root in
      let same : r.taken ≡ next.taken = taken_once nodes header next.taken r.is_taken next.is_taken in
      let size : length r.emitted ≡ length next.emitted = alike_length r.emitted next.emitted
      (emitted_alike nodes header (length nodes - 1) events r.emitted next.emitted r.is_emitted next.is_emitted) in
      let within : next.taken < length next.emitted = slice_get_within next.emitted next.taken v (sym next.is) in
      let more : IsTaken nodes header (events ++ taken ∷ []) (suc next.taken) = next_taken next.emitted next.is_emitted within next.is_taken in
      let same' : r'.taken ≡ suc next.taken = taken_once nodes header (suc next.taken) r'.is_taken more in
      let given : Emitted nodes header (events ++ taken ∷ []) (length nodes - 1) next.emitted =
      no_more_by_take nodes header events (length nodes - 1) next.emitted next.is_emitted in
      let size' : length r'.emitted ≡ length next.emitted = alike_length r'.emitted next.emitted
      (emitted_alike nodes header (length nodes - 1) (events ++ taken ∷ []) r'.emitted next.emitted r'.is_emitted given) in
      let old : length (held_at net.edges (length nodes - 1)) ≡ length r.emitted - r.taken = ap length r.is ∙ length-drop r.taken r.emitted in
      let new : length (held_at net'.edges (length nodes - 1)) ≡ length r'.emitted - r'.taken = ap length r'.is ∙ length-drop r'.taken r'.emitted in
      fewer_left next.taken (length next.emitted) old new same same' size size' within

  -- the same by the number of the network's operators
  pub measure_falls : (events : List Event) (net net' : Parts) (v : Verdict) → Stands nodes header net events → IsNext nodes header events (Some v)
      → Stands nodes header net' (events ++ taken ∷ [])
      → length (held_at net'.edges (length net'.operators - 1)) < length (held_at net.edges (length net.operators - 1))
  measure_falls events net net' v s next s' =
      subst (λ m. length (held_at net'.edges (m - 1)) < length (held_at net.edges (length net.operators - 1))) (sym s'.holds.operators)
      (subst (λ m. length (held_at net'.edges (length nodes - 1)) < length (held_at net.edges (m - 1))) (sym s.holds.operators)
      (held_falls events net net' v s next s'))

-- one take more gives this verdict, and the network goes on
pub record IsTakenNext (p : Pass) (n : ℕ) (before : Network) (v : Verdict) (after : Network) : Type 0 where
  -- it is the next one
  pub next : IsNext p.nodes p.header (p.events ++ takes n) (Some v)
  -- the network stands for the run with that take
  pub stands : Stands p.nodes p.header after.net ((p.events ++ takes n) ++ taken ∷ [])
  -- the truth of the first verdict is kept
  pub start : after.start ≡ kept_truth before.start v.holds

module _ (p : Pass) (given : Emitted p.nodes p.header p.events (length p.nodes - 1) p.given) where
  given_on : (n : ℕ) → Emitted p.nodes p.header (p.events ++ takes n) (length p.nodes - 1) p.given
  given_on n = emitted_takes p.nodes p.header (length p.nodes - 1) p.events n p.given given

  -- before the first take
  pub none_yet : (v : Network) (text : List ℕ) → CanTake p v → HasTaken p 0 v text text
  none_yet v text can =
      let same : p.taken ≡ p.taken + 0 = plus_none p.taken in
      let few : p.taken ≤ length p.given = taken_within p.nodes p.header can.taken p.given can.given in
      record {
        within = within_none p.taken (length p.given) few;
        stands = subst (λ l. Stands p.nodes p.header v.net l) (sym (append-nil p.events)) can.stands;
        taken = subst (λ l. IsTaken p.nodes p.header l (p.taken + 0)) (sym (append-nil p.events))
            (subst (λ k. IsTaken p.nodes p.header p.events k) same can.taken);
        start = can.start ∙ ap (λ k. first_truth (take k p.given)) same;
        lines = ([], refl, sym (append-nil text));
      }

  -- the verdict that a take gives, by the pass's own list
  next_one : (n : ℕ) (v : Verdict) → IsTaken p.nodes p.header (p.events ++ takes n) (p.taken + n)
      → IsNext p.nodes p.header (p.events ++ takes n) (Some v)
      → (w : Verdict) × (slice_get p.given (p.taken + n) ≡ Some w) × AreAlike (v ∷ []) (w ∷ [])
  next_one n v t next =
      let same : next.taken ≡ p.taken + n = taken_once p.nodes p.header (p.taken + n) next.is_taken t in
      let at : slice_get next.emitted (p.taken + n) ≡ Some v = subst (λ k. slice_get next.emitted k ≡ Some v) same (sym next.is) in
      alike_at next.emitted p.given (p.taken + n) v
      (emitted_alike p.nodes p.header (length p.nodes - 1) (p.events ++ takes n) next.emitted p.given next.is_emitted (given_on n)) at

  -- one take more, whose verdict was put
  pub takes_one : {n : ℕ} {before : Network} {old mid : List ℕ} (v : Verdict) (after : Network) (new : List ℕ) → HasTaken p n before old mid
      → IsTakenNext p n before v after → after.formula ≡ before.formula → Grew (IsVerdictLine before.formula.scale v) mid new
      → HasTaken p (suc n) after old new
  takes_one {n} {before} {old} v after new h one formula (line, is_line, grew) =
      let (w, at, same) = next_one n v h.taken one.next in
      let within : p.taken + n < length p.given = slice_get_within p.given (p.taken + n) w at in
      let (grown, lines, is) = h.lines in
      let longer : p.taken + suc n ≡ p.taken + n + 1 = plus_suc p.taken n in
      let up : suc (p.taken + n) ≡ p.taken + suc n = suc_plus p.taken n in
      let first : take (p.taken + suc n) p.given ≡ take (p.taken + n) p.given ++ w ∷ [] =
      ap (λ k. take k p.given) longer ∙ take_on p.given (p.taken + n) w at in
      record {
        within = within_suc p.taken n (length p.given) within;
        stands = subst (λ l. Stands p.nodes p.header after.net l) (takes_on p.events n) one.stands;
        taken = subst (λ l. IsTaken p.nodes p.header l (p.taken + suc n)) (takes_on p.events n)
            (subst (λ k. IsTaken p.nodes p.header ((p.events ++ takes n) ++ taken ∷ []) k) up (next_taken p.given (given_on n) within h.taken));
        start = one.start ∙ ap (λ o. kept_truth o v.holds) h.start ∙ ap (kept_truth (first_truth (take (p.taken + n) p.given))) same.2
            ∙ sym (ap first_truth first ∙ first_more (take (p.taken + n) p.given) w);
        lines = (
          grown ++ line,
          subst (λ (f : Formula). AreVerdictLines f.scale (take (suc n) (drop p.taken p.given)) (grown ++ line)) (sym formula)
              (subst (λ l. AreVerdictLines before.formula.scale l (grown ++ line)) (sym (take_behind p.given p.taken n w at))
              (lines_more before.formula.scale (take n (drop p.taken p.given)) w grown line lines
              (line_alike before.formula.scale v w line same is_line))),
          grew ∙ ap (λ t. t ++ line) is ∙ append_assoc old grown line,
        );
      }

  -- before the first take nothing more is pending
  pub none_given : (v : Network) (pending : List Verdict) → CanTake p v → HasGiven p 0 v pending pending
  none_given v pending can =
      let h = none_yet v [] can in
      record { within = h.within; stands = h.stands; taken = h.taken; start = h.start; put = []; are = tt; pending = sym (append-nil pending) }

  -- one take more, whose verdict stands behind the others
  pub gives_one : {n : ℕ} {before : Network} {old mid : List Verdict} (v : Verdict) (after : Network) (new : List Verdict)
      → HasGiven p n before old mid → IsTakenNext p n before v after → new ≡ mid ++ v ∷ [] → HasGiven p (suc n) after old new
  gives_one {n} {before} {old} v after new h one more =
      let (w, at, same) = next_one n v h.taken one.next in
      let within : p.taken + n < length p.given = slice_get_within p.given (p.taken + n) w at in
      let longer : p.taken + suc n ≡ p.taken + n + 1 = plus_suc p.taken n in
      let up : suc (p.taken + n) ≡ p.taken + suc n = suc_plus p.taken n in
      let first : take (p.taken + suc n) p.given ≡ take (p.taken + n) p.given ++ w ∷ [] =
      ap (λ k. take k p.given) longer ∙ take_on p.given (p.taken + n) w at in
      record {
        within = within_suc p.taken n (length p.given) within;
        stands = subst (λ l. Stands p.nodes p.header after.net l) (takes_on p.events n) one.stands;
        taken = subst (λ l. IsTaken p.nodes p.header l (p.taken + suc n)) (takes_on p.events n)
            (subst (λ k. IsTaken p.nodes p.header ((p.events ++ takes n) ++ taken ∷ []) k) up (next_taken p.given (given_on n) within h.taken));
        start = one.start ∙ ap (λ o. kept_truth o v.holds) h.start ∙ ap (kept_truth (first_truth (take (p.taken + n) p.given))) same.2
            ∙ sym (ap first_truth first ∙ first_more (take (p.taken + n) p.given) w);
        put = h.put ++ v ∷ [];
        are = subst (λ l. AreAlike (h.put ++ v ∷ []) l) (sym (take_behind p.given p.taken n w at))
            (alike_append h.put (v ∷ []) (take n (drop p.taken p.given)) (w ∷ []) h.are same);
        pending = more ∙ ap (λ l. l ++ v ∷ []) h.pending ∙ append_assoc old h.put (v ∷ []);
      }

  -- and where a take finds none
  pub all_given : (n : ℕ) (v : Network) (old new : List Verdict) → HasGiven p n v old new → IsNext p.nodes p.header (p.events ++ takes n) None
      → p.taken + n ≡ length p.given
  all_given n v old new h next =
      let same : next.taken ≡ p.taken + n = taken_once p.nodes p.header (p.taken + n) next.is_taken h.taken in
      let size : length next.emitted ≡ length p.given = alike_length next.emitted p.given
      (emitted_alike p.nodes p.header (length p.nodes - 1) (p.events ++ takes n) next.emitted p.given next.is_emitted (given_on n)) in
      let past : length next.emitted ≤ next.taken = past_end next.emitted next.taken (sym next.is) in
      all_of next.taken (length next.emitted) (length p.given) (p.taken + n) same size past h.within

  -- a take that finds none: all was taken
  pub all_taken : (n : ℕ) (v : Network) (old new : List ℕ) → HasTaken p n v old new → IsNext p.nodes p.header (p.events ++ takes n) None
      → p.taken + n ≡ length p.given
  all_taken n v old new h next =
      let same : next.taken ≡ p.taken + n = taken_once p.nodes p.header (p.taken + n) next.is_taken h.taken in
      let size : length next.emitted ≡ length p.given = alike_length next.emitted p.given
      (emitted_alike p.nodes p.header (length p.nodes - 1) (p.events ++ takes n) next.emitted p.given next.is_emitted (given_on n)) in
      let past : length next.emitted ≤ next.taken = past_end next.emitted next.taken (sym next.is) in
      all_of next.taken (length next.emitted) (length p.given) (p.taken + n) same size past h.within

-- ---- steps

module _ (nodes : List Node) (header : Header) where
  -- the steps of one node more
  steps_more : (i : ℕ) → i < length nodes
      → steps_of 0 (take (i + 1) nodes) ≡ steps_of 0 (take i nodes) ++ steps_of i (slice_index_or nodes i (Const false) ∷ [])
  steps_more i within =
      let size : length (take i nodes) ≡ i = length-take-le i nodes (omega (arith, within)) in
      let place : 0 + length (take i nodes) ≡ i = omega (arith, size) in
      ap (steps_of 0) (take_more nodes i (Const false) within)
      ∙ steps_append nodes header 0 (take i nodes) (slice_index_or nodes i (Const false) ∷ [])
      ∙ ap (λ k. steps_of 0 (take i nodes) ++ steps_of k (slice_index_or nodes i (Const false) ∷ [])) place

  -- an atom does not move
  atom_stays : (events : List Event) (i : ℕ) (moved : Bool) → node_is_atom nodes i ≡ true → IsTrue moved ↔ IsReady nodes (state nodes events) i
      → moved ≡ false
  atom_stays events i false leaf ready = refl
  atom_stays events i true leaf ready = absurd (false≢true (sym (ready.0 refl).0 ∙ leaf))

  -- a step of one node
  stepped_on : (events : List Event) (i : ℕ) (net net' : Parts) (moved : Bool) → Stands nodes header net events → IsStepped net net' moved
      → IsTrue moved ↔ IsReady nodes (state nodes events) i
      → (node_is_atom nodes i ≡ false → Stands nodes header net' (events ++ step i ∷ []))
      → Stands nodes header net' (events ++ steps_of i (slice_index_or nodes i (Const false) ∷ []))
  stepped_on events i net net' moved st is ready stands = by_atom (node_is_atom nodes i) refl
    where
      by_atom : (t : Bool) → node_is_atom nodes i ≡ t → Stands nodes header net' (events ++ cond (node_is_atom nodes i) [] (step i ∷ []))
      by_atom true e =
          subst (λ t. Stands nodes header net' (events ++ cond t [] (step i ∷ []))) (sym e)
          (subst (λ l. Stands nodes header net' l) (sym (append-nil events))
          (subst (λ (q : Parts). Stands nodes header q events) (sym (is.unmoved (atom_stays events i moved e ready))) st))
      by_atom false e = subst (λ t. Stands nodes header net' (events ++ cond t [] (step i ∷ []))) (sym e) (stands e)

  -- the steps of the nodes before one, and its own
  pub steps_on : (events : List Event) (i : ℕ) (net net' : Parts) (moved : Bool) → i < length nodes
      → Stands nodes header net (events ++ steps_of 0 (take i nodes)) → IsStepped net net' moved
      → IsTrue moved ↔ IsReady nodes (state nodes (events ++ steps_of 0 (take i nodes))) i
      → (node_is_atom nodes i ≡ false → Stands nodes header net' ((events ++ steps_of 0 (take i nodes)) ++ step i ∷ []))
      → Stands nodes header net' (events ++ steps_of 0 (take (i + 1) nodes))
  steps_on events i net net' moved within st is ready stands =
      subst (λ l. Stands nodes header net' l) (append_assoc events (steps_of 0 (take i nodes)) (steps_of i (slice_index_or nodes i (Const false) ∷ []))
      ∙ ap (λ l. events ++ l) (sym (steps_more i within)))
      (stepped_on (events ++ steps_of 0 (take i nodes)) i net net' moved st is ready stands)
