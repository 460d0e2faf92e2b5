-- What a network shows once one node more has gone on.
use Rattle.std.proofs.Common.{◌≡◌, ◌≢◌, inl, inr, ℕ, ◌-◌, ◌<◌, Bool, false, List}
use Rattle.std.proofs.Common.{◌++◌, length, refl, sym, ap, subst, ◌∙◌, arith, append_assoc, Some, ℤ}
use Rattle.std.specs.Prelude.{slice_get, slice_set, slice_index_or}
use Rattle.std.proofs.lemmas.Bool.{cases_eq}
use Rattle.std.proofs.lemmas.Option.{slice_get_within, same_Some}
use Rattle.std.proofs.lemmas.List.{length-set}
use Rattle.rational.proofs.Lists.{slice_get-set_same, slice_get-set_other}
use Rattle.stl_syntax.specs.Trace.{Header, IsTrace}
use Rattle.stl_syntax.specs.Formula.{subformula, horizon}
use Rattle.stl_syntax.specs.declared.node.Node.{Node}
use Rattle.stl_syntax.specs.declared.node.Node.TheVariants.{Const}
use Rattle.stl_syntax.proofs.PostOrderLemmas.{slice_get_at}
use Rattle.online_nodes.specs.Network.{reach_back}
use Rattle.online_nodes.specs.Needed.{IsReader}
use Rattle.online_nodes.proofs.ReadersLaw.{one_reader, root_unread}
use Rattle.online_robust.specs.Held.{Edge, Held, edge_at, held_at, held_of, number_at, with_more, with_number}
use Rattle.online_robust.specs.Steps.{seen_by}
use Rattle.online_robust.specs.Pasts.{Past, trace_of, number_of, Gave, IsHeld, IsWork}
use Rattle.online_robust.specs.Moving.{AreStreamed, IsNext, HasMoved}
use Rattle.online_robust.specs.Nets.{Shows}
use Rattle.online_robust.specs.declared.line.MarginLine.{MarginLine}
use Rattle.online_robust.specs.declared.station.Station.{Station}
use Rattle.online_robust.specs.declared.station.Work.{Work}
use Rattle.online_robust.proofs.GivenOutGrows.{AreNext, gave_grows}
use Rattle.online_robust.proofs.NodesGoOn.{held_grows}
use Rattle.online_robust.proofs.Readers.{MayRead, may_read, seen_same, reader_above}

-- ---- lists

held_of-more : (x : Edge) (more : List MarginLine) (f : ℤ) → held_of (with_number (with_more x more) f) ≡ held_of x ++ more
held_of-more x more f = sym (append_assoc x.seen x.fresh more)

-- ---- one node more

-- the pasts of the nodes before one of them goes on, and after
pub record AtNext (i : ℕ) (old new : Past) (at after : ℕ → Past) : Type 0 where
  -- the node was as before
  pub was : at i ≡ old
  -- it is as after
  pub is : after i ≡ new
  -- the nodes before it have gone on
  pub below : (j : ℕ) → j < i → at j ≡ new
  -- those behind it have not
  pub above : (j : ℕ) → i < j → at j ≡ old
  -- no other node has changed
  pub others : (j : ℕ) → j ≢ i → after j ≡ at j

module _ (nodes : List Node) (header : Header) (streamed : AreStreamed nodes) (old new : Past) (next : IsNext old new) (trace : IsTrace (trace_of header new))
    (i : ℕ) (within : i < length nodes) (at after : ℕ → Past) (pasts : AtNext i old new at after) (given : List MarginLine) (e e' : Held)
    (work : Work) (moved : HasMoved (record { nodes = nodes; header = header; old = old; new = new; place = i }) work e e') where
  abbrev AreMoreAt : List MarginLine → Type 0
  AreMoreAt lines = AreNext nodes header i lines moved.more old new

  are_next : (lines : List MarginLine) → AreMoreAt lines
  are_next lines = record { parts = moved.parts; told = moved.told }

  below : (r : ℕ) (n : Node) (left : Bool) (j : ℕ) → slice_get nodes r ≡ Some n → IsReader n left j → j < r
  below r n left j found reads = reader_above nodes streamed.formed r n left j found reads

  got : held_at e' i ≡ held_at e i ++ moved.more
  got = ap held_of moved.got ∙ held_of-more (edge_at e i) moved.more moved.number

  -- the edge is not read by the node
  unread : (r : ℕ) (n : Node) (left : Bool) (j : ℕ) → slice_get nodes r ≡ Some n → IsReader n left j → r ≢ i
      → (m : Node) (side : Bool) → slice_get nodes i ≡ Some m → IsReader m side j → ⊥
  unread r n left j found reads other m side here read =
      other (one_reader nodes streamed.formed.post_order r i left side j found here reads read)

  held_moved : (stations : List Station) → Shows nodes header at given e stations → (j r : ℕ) (n : Node) (left : Bool)
      → slice_get nodes r ≡ Some n → IsReader n left j
      → IsHeld nodes header (after j) j (after r) r (reach_back n left) (held_at e' j)
  held_moved stations shows j r n left found reads = elim (cases_eq r i) [
    | inl here ↦
        let found' : slice_get nodes i ≡ Some n = subst (λ k. slice_get nodes k ≡ Some n) here found in
        let lower : j < i = below i n left j found' reads in
        let past : after j ≡ new = pasts.others j (omega (arith, lower)) ∙ pasts.below j lower in
        let own : after r ≡ new = ap after here ∙ pasts.is in
        subst (λ k. IsHeld nodes header (after j) j (after r) k (reach_back n left) (held_at e' j)) (sym here)
        (subst (λ q. IsHeld nodes header q j (after r) i (reach_back n left) (held_at e' j)) (sym past)
        (subst (λ q. IsHeld nodes header new j q i (reach_back n left) (held_at e' j)) (sym own) (moved.inputs n j left found' reads).0))
    | inr there ↦
        let mine : IsHeld nodes header (at j) j (at r) r (reach_back n left) (held_at e j) = shows.held j r n left found reads in
        let reader : after r ≡ at r = pasts.others r there in
        elim (cases_eq j i) [
          | inl own ↦
              let higher : i < r = let low = below r n left j found reads in omega (arith, low, own) in
              let far : at r ≡ old = pasts.above r higher in
              let was : at j ≡ old = ap at own ∙ pasts.was in
              let is : after j ≡ new = ap after own ∙ pasts.is in
              let before : IsHeld nodes header old i old r (reach_back n left) (held_at e i) =
              subst (λ k. IsHeld nodes header old k old r (reach_back n left) (held_at e k)) own
              (subst (λ q. IsHeld nodes header q j old r (reach_back n left) (held_at e j)) was
              (subst (λ q. IsHeld nodes header (at j) j q r (reach_back n left) (held_at e j)) far mine)) in
              let grown : IsHeld nodes header new i old r (reach_back n left) (held_at e i ++ moved.more) =
              held_grows nodes header streamed i r n left found (subst (λ k. IsReader n left k) own reads) old new next
              (held_at e i) moved.more trace before are_next in
              subst (λ q. IsHeld nodes header (after j) j q r (reach_back n left) (held_at e' j)) (sym (reader ∙ far))
              (subst (λ q. IsHeld nodes header q j old r (reach_back n left) (held_at e' j)) (sym is)
              (subst (λ k. IsHeld nodes header new k old r (reach_back n left) (held_at e' k)) (sym own)
              (subst (λ l. IsHeld nodes header new i old r (reach_back n left) l) (sym got) grown)))
          | inr other ↦
              let same : held_at e' j ≡ held_at e j =
              ap held_of (moved.others j other (λ m side here read. unread r n left j found reads there m side here read)) in
              subst (λ q. IsHeld nodes header (after j) j q r (reach_back n left) (held_at e' j)) (sym reader)
              (subst (λ q. IsHeld nodes header q j (at r) r (reach_back n left) (held_at e' j)) (sym (pasts.others j other))
              (subst (λ l. IsHeld nodes header (at j) j (at r) r (reach_back n left) l) (sym same) mine))
        ]
  ]

  abbrev root : ℕ
  root = length nodes - 1

  root_moved : Gave nodes header (at root) root (given ++ held_at e root) → Gave nodes header (after root) root (given ++ held_at e' root)
  root_moved gave = elim (cases_eq root i) [
    | inl own ↦
        let was : at root ≡ old = ap at own ∙ pasts.was in
        let is : after root ≡ new = ap after own ∙ pasts.is in
        let before : Gave nodes header old i (given ++ held_at e i) =
        subst (λ k. Gave nodes header old k (given ++ held_at e k)) own (subst (λ q. Gave nodes header q root (given ++ held_at e root)) was gave) in
        let grown : Gave nodes header new i ((given ++ held_at e i) ++ moved.more) =
        gave_grows nodes header i (given ++ held_at e i) moved.more old new next trace before (are_next (given ++ held_at e i)) in
        let all : (given ++ held_at e i) ++ moved.more ≡ given ++ held_at e' i = append_assoc given (held_at e i) moved.more ∙ ap (λ l. given ++ l) (sym got) in
        subst (λ q. Gave nodes header q root (given ++ held_at e' root)) (sym is)
        (subst (λ k. Gave nodes header new k (given ++ held_at e' k)) (sym own) (subst (Gave nodes header new i) all grown))
    | inr other ↦
        let same : held_at e' root ≡ held_at e root =
        ap held_of (moved.others root other (λ m side here read. root_unread nodes streamed.one_root i m side root here read refl)) in
        subst (λ q. Gave nodes header q root (given ++ held_at e' root)) (sym (pasts.others root other))
        (subst (λ l. Gave nodes header (at root) root (given ++ l)) (sym same) gave)
  ]

  number_moved : (j : ℕ) → number_at e j ≡ number_of nodes (at j) j → number_at e' j ≡ number_of nodes (after j) j
  number_moved j was = elim (cases_eq j i) [
    | inl own ↦
        subst (λ k. number_at e' k ≡ number_of nodes (after k) k) (sym own)
        (subst (λ q. number_at e' i ≡ number_of nodes q i) (sym pasts.is) (ap (λ (x : Edge). x.number) moved.got ∙ sym moved.number_is))
    | inr other ↦
        subst (λ q. number_at e' j ≡ number_of nodes q j) (sym (pasts.others j other)) (same other (may_read_of j) ∙ was)
  ]
    where
      node : Node
      node = slice_index_or nodes i (Const false)

      found : slice_get nodes i ≡ Some node
      found = slice_get_at nodes i (Const false) within

      may_read_of : (j : ℕ) → MayRead node j
      may_read_of j = may_read j node

      same : j ≢ i → MayRead node j → number_at e' j ≡ number_at e j
      same other (inl (left, reads)) = (moved.inputs node j left found reads).1
      same other (inr none) =
          ap (λ (x : Edge). x.number)
          (moved.others j other (λ m side here read. none side (subst (λ k. IsReader k side j) (same_Some _ _ (sym here ∙ found)) read)))

  -- the operators of other nodes have read the same
  seen_moved : (r : ℕ) (n : Node) → slice_get nodes r ≡ Some n → r ≢ i → seen_by n e' ≡ seen_by n e
  seen_moved r n found other = seen_same n e e' (λ j left reads. by_edge j left reads)
    where
      by_edge : (j : ℕ) (left : Bool) → IsReader n left j → (edge_at e' j).seen ≡ (edge_at e j).seen
      by_edge j left reads = elim (cases_eq j i) [
        | inl own ↦ subst (λ k. (edge_at e' k).seen ≡ (edge_at e k).seen) (sym own) (ap (λ (x : Edge). x.seen) moved.got)
        | inr apart ↦ ap (λ (x : Edge). x.seen) (moved.others j apart (λ m side here read. unread r n left j found reads other m side here read))
      ]

  abbrev IsNode : ℕ → Past → Node → Station → Held → Type 0
  IsNode j past n st edges = (st.ahead ≡ horizon (subformula nodes j)) × IsWork nodes header past j n (seen_by n edges) st.work

  works_moved : (stations : List Station) (st st' : Station) → slice_get stations i ≡ Some st → st'.ahead ≡ st.ahead → st'.work ≡ work
      → Shows nodes header at given e stations → (j : ℕ) (n : Node) (x : Station) → slice_get nodes j ≡ Some n → slice_get (slice_set stations i st') j ≡ Some x
      → IsNode j (after j) n x e'
  works_moved stations st st' here ahead is shows j n x found there = elim (cases_eq j i) [
    | inl own ↦
        let same : st' ≡ x =
        same_Some _ _ (sym (slice_get-set_same stations i st' (slice_get_within stations i st here))
        ∙ subst (λ k. slice_get (slice_set stations i st') k ≡ Some x) own there) in
        let found' : slice_get nodes i ≡ Some n = subst (λ k. slice_get nodes k ≡ Some n) own found in
        let kept : st.ahead ≡ horizon (subformula nodes i) = (shows.works i n st found' here).0 in
        let mine : IsNode i new n st' e' =
        (ahead ∙ kept, subst (IsWork nodes header new i n (seen_by n e')) (sym is) (moved.work n found')) in
        subst (λ k. IsNode k (after k) n x e') (sym own)
        (subst (λ q. IsNode i q n x e') (sym pasts.is) (subst (λ y. IsNode i new n y e') same mine))
    | inr other ↦
        let before : IsNode j (at j) n x e = shows.works j n x found (sym (slice_get-set_other stations i j st' other) ∙ there) in
        let seen : seen_by n e' ≡ seen_by n e = seen_moved j n found other in
        subst (λ q. IsNode j q n x e') (sym (pasts.others j other))
        (before.0, subst (λ s. IsWork nodes header (at j) j n s x.work) (sym seen) before.1)
  ]

  -- the network shows what it did, with the node moved
  pub shows_moved : (stations : List Station) (st st' : Station) → slice_get stations i ≡ Some st → st'.ahead ≡ st.ahead → st'.work ≡ work
      → Shows nodes header at given e stations → Shows nodes header after given e' (slice_set stations i st')
  shows_moved stations st st' here ahead is shows = record {
    edges = moved.edges ∙ shows.edges;
    stations = length-set stations i st' ∙ shows.stations;
    held = held_moved stations shows;
    root = root_moved shows.root;
    numbers = λ j l. number_moved j (shows.numbers j l);
    works = works_moved stations st st' here ahead is shows;
  }
