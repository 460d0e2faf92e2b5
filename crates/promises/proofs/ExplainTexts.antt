-- An explanation is one text.
use Rattle.std.proofs.Common.{◌≡◌, inl, inr, ℕ, suc, List, [], ◌∷◌, ◌++◌, sym, ap, subst, ◌∙◌, reverse, Some}
use Rattle.std.specs.Prelude.{MatchBool, codes, slice_get}
use Rattle.std.proofs.lemmas.List.{reverse-append}
use Rattle.rational.specs.Time.{Interval}
use Rattle.rational.proofs.Order.{same_sym, same_trans}
use Rattle.rational.proofs.Tests.{one_truth as one_truth_at}
use Rattle.frac128.specs.Spans.{interval}
use Rattle.frac128.proofs.Wholes.{span_time}
use Rattle.stl_syntax.specs.Trace.{Trace, start}
use Rattle.stl_syntax.specs.Formula.{Formula, Subformula, atom, root, subformula}
use Rattle.stl_syntax.specs.Truth.{Truth}
use Rattle.stl_syntax.specs.Kleene.{MustNot}
use Rattle.stl_syntax.specs.Cells.{cells}
use Rattle.stl_syntax.specs.Kept.{IsSo, ItemsOn, AllCells, Kept, KeptFrom}
use Rattle.stl_syntax.specs.Texts.{newline, bool_text}
use Rattle.stl_syntax.specs.declared.atom.Atom.{Atom}
use Rattle.stl_syntax.specs.declared.items.Item.{Item}
use Rattle.stl_syntax.specs.declared.node.Node.{Node}
use Rattle.stl_syntax.specs.declared.node.Node.TheVariants.{Atom as Leaf}
use Rattle.stl_syntax.specs.declared.scale.Scale.{Scale}
use Rattle.stl_syntax.specs.Print.{IsAtomText}
use Rattle.stl_syntax.proofs.PrintLaw.{one_printed}
use Rattle.implicants.specs.Keeping.{CoverMore}
use Rattle.implicants.proofs.NodeCounts.{cuts_are_same}
use Rattle.implicants.proofs.MoreItems.{must_not}
use Rattle.implicants.proofs.OneExplanation.{AreAlike, AreAllAlike, alike_sym, alike_trans, in_alike, same_cells}
use Rattle.stl_syntax.specs.Scaling.{nodes_for}
use Rattle.report.specs.Report.{explain, Join, AreJoined, IsItemLines, AreItemLines, IsExplained, Out}
use Rattle.answer_lines.proofs.OneText.{span_once, start_once}

-- items of one node and truth on spans that are alike
pub record AreSame (e g : Item) : Type 0 where
  -- of the same node
  pub node : e.node ≡ g.node
  -- with the same truth
  pub holds : e.holds ≡ g.holds
  -- on the same times
  pub on : AreAlike (interval e.on) (interval g.on)

abbrev pub AreAllSame : List Item → List Item → Type 0
AreAllSame [] [] = Unit {0}
AreAllSame [] (g ∷ ys) = ⊥
AreAllSame (e ∷ xs) [] = ⊥
AreAllSame (e ∷ xs) (g ∷ ys) = AreSame e g × AreAllSame xs ys

same_both : (xs ys us vs : List Item) → AreAllSame xs ys → AreAllSame us vs → AreAllSame (xs ++ us) (ys ++ vs)
same_both [] [] us vs s r = r
same_both [] (g ∷ ys) us vs s r = absurd s
same_both (e ∷ xs) [] us vs s r = absurd s
same_both (e ∷ xs) (g ∷ ys) us vs (s, rest) r = (s, same_both xs ys us vs rest r)

same_turned : (xs ys : List Item) → AreAllSame xs ys → AreAllSame (reverse xs) (reverse ys)
same_turned [] [] s = tt
same_turned [] (g ∷ ys) s = absurd s
same_turned (e ∷ xs) [] s = absurd s
same_turned (e ∷ xs) (g ∷ ys) (s, rest) =
    subst (λ l. AreAllSame l (reverse (g ∷ ys))) (sym (reverse-append (e ∷ []) xs))
    (subst (λ l. AreAllSame (reverse xs ++ e ∷ []) l) (sym (reverse-append (g ∷ []) ys))
    (same_both (reverse xs) (reverse ys) (e ∷ []) (g ∷ []) (same_turned xs ys rest) (s, tt)))

-- they cover the same
same_cover : (xs ys : List Item) → AreAllSame xs ys → CoverMore xs ys
same_cover [] ys s i t h = absurd h
same_cover (e ∷ xs) [] s i t h = absurd s
same_cover (e ∷ xs) (g ∷ ys) (s, rest) i t (inl h) = inl (sym s.node ∙ h.0, in_alike (interval e.on) (interval g.on) t s.on h.1)
same_cover (e ∷ xs) (g ∷ ys) (s, rest) i t (inr h) = inr (same_cover xs ys rest i t h)

same_back : (xs ys : List Item) → AreAllSame xs ys → AreAllSame ys xs
same_back [] [] s = tt
same_back [] (g ∷ ys) s = absurd s
same_back (e ∷ xs) [] s = absurd s
same_back (e ∷ xs) (g ∷ ys) (s, rest) =
    (record { node = sym s.node; holds = sym s.holds; on = alike_sym (interval e.on) (interval g.on) s.on }, same_back xs ys rest)

module _ (nodes : List Node) (tr : Trace) where
  -- two items of one node on spans that are alike have one truth
  one_truth : (e g : Item) → e.node ≡ g.node → AreAlike (interval e.on) (interval g.on) → IsSo nodes tr e → IsSo nodes tr g → e.holds ≡ g.holds
  one_truth e g same on so also =
      let t = span_time e.on in
      one_truth_at (Truth (subformula nodes e.node) tr t.0) e.holds g.holds (so t.0 t.1)
      (subst (λ (i : ℕ). MatchBool g.holds (Truth (subformula nodes i) tr t.0) (¬ Truth (subformula nodes i) tr t.0)) (sym same)
      (also t.0 (in_alike (interval e.on) (interval g.on) t.0 on t.1)))

  items_same : (i : ℕ) (spans others : List Interval) (xs ys : List Item) → AreAllAlike spans others → ItemsOn nodes tr i spans xs
      → ItemsOn nodes tr i others ys → AreAllSame xs ys
  items_same i [] [] [] [] s h k = tt
  items_same i [] [] [] (g ∷ ys) s h k = absurd k
  items_same i [] [] (e ∷ xs) ys s h k = absurd h
  items_same i [] (b ∷ others) xs ys s h k = absurd s
  items_same i (a ∷ spans) [] xs ys s h k = absurd s
  items_same i (a ∷ spans) (b ∷ others) [] ys s h k = absurd h
  items_same i (a ∷ spans) (b ∷ others) (e ∷ xs) [] s h k = absurd k
  items_same i (a ∷ spans) (b ∷ others) (e ∷ xs) (g ∷ ys) s h k =
      let left : AreAlike (interval e.on) a = record { begin = h.1; end = h.2 } in
      let right : AreAlike (interval g.on) b = record { begin = k.1; end = k.2 } in
      let on : AreAlike (interval e.on) (interval g.on) =
      alike_trans (interval e.on) a (interval g.on) left (alike_trans a b (interval g.on) s.0 (alike_sym (interval g.on) b right)) in
      let node : e.node ≡ g.node = h.0 ∙ sym k.0 in
      (record { node = node; holds = one_truth e g node on h.3 k.3; on = on }, items_same i spans others xs ys s.1 h.4 k.4)

  -- two lists of all cells are the same
  cells_same : (i : ℕ) (ns : List Node) (xs ys : List Item) → AllCells nodes tr i ns xs → AllCells nodes tr i ns ys → AreAllSame xs ys
  cells_same i [] xs ys a b = subst (λ zs. AreAllSame zs ys) (sym a) (subst (λ zs. AreAllSame [] zs) (sym b) tt)
  cells_same i (Leaf l ∷ ns) xs ys (times, here, later, cuts, on, e, rest) (others, there, after, slits, off, f, more) =
      subst (λ zs. AreAllSame zs ys) (sym e) (subst (λ zs. AreAllSame (here ++ later) zs) (sym f)
      (same_both here there later after (items_same i (cells times) (cells others) here there
      (same_cells times others (cuts_are_same nodes tr i times others cuts slits)) on off) (cells_same (suc i) ns later after rest more)))
  cells_same i (n ∷ ns) xs ys a b = cells_same (suc i) ns xs ys a b

  -- what is certainly false without one cell is so without the same one
  fails_same : (p : Subformula) (xs ys before after : List Item) → AreAllSame xs ys → AreAllSame before after
      → MustNot p (reverse xs ++ before) tr (start tr) → MustNot p (reverse ys ++ after) tr (start tr)
  fails_same p xs ys before after s r m =
      must_not (reverse xs ++ before) (reverse ys ++ after) tr
      (same_cover (reverse xs ++ before) (reverse ys ++ after)
      (same_both (reverse xs) (reverse ys) before after (same_turned xs ys s) r)) p (start tr) m

  -- and so is what is kept of them
  dropped_same : (p : Subformula) (xs ys before after kept held : List Item) → AreAllSame xs ys → AreAllSame before after
      → KeptFrom p tr xs before kept → KeptFrom p tr ys after held → AreAllSame kept held
  dropped_same p [] [] before after kept held s r h k =
      subst (λ zs. AreAllSame zs held) (sym h) (subst (λ zs. AreAllSame before zs) (sym k) r)
  dropped_same p [] (g ∷ ys) before after kept held s r h k = absurd s
  dropped_same p (e ∷ xs) [] before after kept held s r h k = absurd s
  dropped_same p (e ∷ xs) (g ∷ ys) before after kept held (s, rest) r (inl (m, a)) (inl (n, b)) =
      dropped_same p xs ys before after kept held rest r a b
  dropped_same p (e ∷ xs) (g ∷ ys) before after kept held (s, rest) r (inr (m, a)) (inr (n, b)) =
      dropped_same p xs ys (e ∷ before) (g ∷ after) kept held rest (s, r) a b
  dropped_same p (e ∷ xs) (g ∷ ys) before after kept held (s, rest) r (inl (m, a)) (inr (n, b)) =
      absurd (n (fails_same p xs ys before after rest r m))
  dropped_same p (e ∷ xs) (g ∷ ys) before after kept held (s, rest) r (inr (m, a)) (inl (n, b)) =
      absurd (m (fails_same p ys xs after before (same_back xs ys rest) (same_back before after r) n))

  kept_same : (xs ys : List Item) → Kept nodes tr xs → Kept nodes tr ys → AreAllSame xs ys
  kept_same xs ys k l =
      dropped_same (root nodes) (reverse k.all) (reverse l.all) [] [] xs ys (same_turned k.all l.all (cells_same 0 nodes k.all l.all k.cells l.cells)) tt
      k.dropped l.dropped

-- neighbours that join, join by other names
join_same : (e f g h : Item) → AreSame e g → AreSame f h → Join e f → Join g h
join_same e f g h s r (node, holds, touch) = (
  sym s.node ∙ node ∙ r.node,
  sym s.holds ∙ holds ∙ r.holds,
  record {
    time = same_trans (same_sym r.on.begin.time) (same_trans touch.time s.on.end.time);
    once = λ x. touch.once (r.on.begin.inside ∙ x ∙ sym s.on.end.inside);
  },
)

back_one : (e g : Item) → AreSame e g → AreSame g e
back_one e g s = record { node = sym s.node; holds = sym s.holds; on = alike_sym (interval e.on) (interval g.on) s.on }

-- a line that is joined of items, and the last of them
record Joining : Type 0 where
  line : Item
  last : Item

-- a line that was begun with an item
abbrev begun_with : Item → Joining
begun_with e = record { line = e; last = e }

-- two such lines are the same so far
record AreSameSoFar (x y : Joining) : Type 0 where
  line : AreSame x.line y.line
  last : AreSame x.last y.last

-- items that are the same make the same lines
joined_same : (x y : Joining) (items others lines bars : List Item) → AreSameSoFar x y → AreAllSame items others
    → AreJoined x.line x.last items lines → AreJoined y.line y.last others bars → AreAllSame lines bars
joined_same x y [] [] lines bars s all h k =
    subst (λ zs. AreAllSame zs bars) (sym h) (subst (λ zs. AreAllSame (x.line ∷ []) zs) (sym k) (s.line, tt))
joined_same x y [] (g ∷ others) lines bars s all h k = absurd all
joined_same x y (e ∷ items) [] lines bars s all h k = absurd all
joined_same x y (e ∷ items) (g ∷ others) lines bars s (a, all) (inl (j, (longer, node, holds, begin, end, rest)))
    (inl (j', (wider, node', holds', begin', end', rest'))) =
    joined_same (record { line = longer; last = e }) (record { line = wider; last = g }) items others lines bars (record {
      line = record {
        node = node ∙ s.line.node ∙ sym node';
        holds = holds ∙ s.line.holds ∙ sym holds';
        on = record {
          begin = record {
            time = same_trans begin.time (same_trans s.line.on.begin.time (same_sym begin'.time));
            inside = begin.inside ∙ s.line.on.begin.inside ∙ sym begin'.inside;
          };
          end = record {
            time = same_trans end.time (same_trans a.on.end.time (same_sym end'.time));
            inside = end.inside ∙ a.on.end.inside ∙ sym end'.inside;
          };
        };
      };
      last = a;
    }) all rest rest'
joined_same x y (e ∷ items) (g ∷ others) lines bars s (a, all) (inl (j, more)) (inr (apart, more')) =
    absurd (apart (join_same x.last e y.last g s.last a j))
joined_same x y (e ∷ items) (g ∷ others) lines bars s (a, all) (inr (apart, more)) (inl (j, more')) =
    absurd (apart (join_same y.last g x.last e (back_one x.last y.last s.last) (back_one e g a) j))
joined_same x y (e ∷ items) (g ∷ others) lines bars s (a, all) (inr (apart, (rest, is, more))) (inr (apart', (rest', is', more'))) =
    subst (λ zs. AreAllSame zs bars) (sym is) (subst (λ zs. AreAllSame (x.line ∷ rest) zs) (sym is')
    (s.line, joined_same (begun_with e) (begun_with g) items others rest rest' (record { line = a; last = a }) all more more'))

lines_same : (items others lines bars : List Item) → AreAllSame items others → IsItemLines items lines → IsItemLines others bars → AreAllSame lines bars
lines_same [] [] lines bars all h k = subst (λ zs. AreAllSame zs bars) (sym h) (subst (λ zs. AreAllSame [] zs) (sym k) tt)
lines_same [] (g ∷ others) lines bars all h k = absurd all
lines_same (e ∷ items) [] lines bars all h k = absurd all
lines_same (e ∷ items) (g ∷ others) lines bars (s, all) h k =
    joined_same (begun_with e) (begun_with g) items others lines bars (record { line = s; last = s }) all h k

-- a formula on a trace has one list of lines
pub explained_same : (f : Formula) (tr : Trace) (xs ys : List Item) → IsExplained f tr xs → IsExplained f tr ys → AreAllSame xs ys
explained_same f tr xs ys (inl (h, none)) (inl (k, empty)) = subst (λ zs. AreAllSame zs ys) (sym none) (subst (λ zs. AreAllSame [] zs) (sym empty) tt)
explained_same f tr xs ys (inl (h, none)) (inr (k, rest)) = absurd (k h)
explained_same f tr xs ys (inr (h, rest)) (inl (k, none)) = absurd (h k)
explained_same f tr xs ys (inr (h, (items, kept, lines))) (inr (k, (others, held, bars))) =
    lines_same items others xs ys (kept_same (nodes_for f tr) tr items others kept held) lines bars

-- lines that are the same have one text
item_texts_once : (scale : Scale) (f : Formula) (xs ys : List Item) (x y : List ℕ) → AreAllSame xs ys → AreItemLines scale f xs x
    → AreItemLines scale f ys y → x ≡ y
item_texts_once scale f [] [] x y s h k = h ∙ sym k
item_texts_once scale f [] (g ∷ ys) x y s h k = absurd s
item_texts_once scale f (e ∷ xs) [] x y s h k = absurd s
item_texts_once scale f (e ∷ xs) (g ∷ ys) x y (s, all) (a, at, (name, on, later, name_is, on_is, rest, is))
    (b, at', (name', on', later', name_is', on_is', rest', is')) =
    let found : Some (Leaf a) ≡ Some (Leaf b) = sym at ∙ ap (slice_get f.nodes) s.node ∙ at' in
    let one : a ≡ b = cc in
    let names : name ≡ name' = one_printed f.scale (atom 0 b) name name' (subst (λ (c : Atom). IsAtomText f.scale c name) one name_is) name_is' in
    is ∙ ap (λ t. t ++ codes " " ++ bool_text e.holds ++ codes " on " ++ on ++ newline ++ later) names
    ∙ ap (λ h. name' ++ codes " " ++ bool_text h ++ codes " on " ++ on ++ newline ++ later) s.holds
    ∙ ap (λ t. name' ++ codes " " ++ bool_text g.holds ++ codes " on " ++ t ++ newline ++ later)
    (span_once scale e.on g.on s.on.begin s.on.end on_is on_is')
    ∙ ap (λ t. name' ++ codes " " ++ bool_text g.holds ++ codes " on " ++ on' ++ newline ++ t)
    (item_texts_once scale f xs ys later later' all rest rest') ∙ sym is'

-- `explain` writes one text
pub explain_once : (f : Formula) (tr : Trace) (x y : List ℕ) → Out explain f tr x → Out explain f tr y → x ≡ y
explain_once f tr x y (items, line, body, lines, start, text, is) (others, line', body', bars, start', text', is') =
    is ∙ ap (λ t. t ++ body) (start_once _ tr line line' start start')
    ∙ ap (λ t. line' ++ t) (item_texts_once tr.header.scale f items others body body' (explained_same f tr items others lines bars) text text') ∙ sym is'
