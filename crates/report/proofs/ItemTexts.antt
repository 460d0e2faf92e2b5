-- The lines of items: there are some for each list, and they grow line by line.
use Rattle.std.proofs.Common.{◌≡◌, ◌⊎◌, ℕ, ◌+◌, ◌*◌, ◌&&◌, Bool, true, false, List, [], ◌∷◌, ◌++◌}
use Rattle.std.proofs.Common.{append-nil, append_assoc, refl, sym, ap, ◌∙◌, subst, inl, inr, codes}
use Rattle.std.proofs.lemmas.Bool.{cases_eq, cases_Bool, and_left, and_right}
use Rattle.std.proofs.lemmas.List.Elements.{All-nil, All-cons, All-head, All-tail}
use Rattle.std.specs.Prelude.{All, Some, slice_get}
use Rattle.rational.specs.Time.{Rational, Touch, EndAlike, HasTimeBetween, ◌≈◌, ◌<ʳ◌, ◌≤ʳ◌}
use Rattle.rational.proofs.Order.{same_refl, same_sym, same_trans, ge_of_same, le_trans, lt_of_lt_of_le, lt_of_le_of_lt}
use Rattle.rational.proofs.TimeLemmas.{room_of_precedes, precedes_of_room, precedes_of_lt, precedes_le}
use Rattle.frac128.specs.Spans.{interval}
use Rattle.frac128.specs.Value.{value}
use Rattle.frac128.specs.declared.span.Span.{Span}
use Rattle.stl_syntax.specs.Formula.{Formula}
use Rattle.stl_syntax.specs.Printing.{atom_text}
use Rattle.stl_syntax.specs.Texts.{newline, bool_text, IsSpanText}
use Rattle.stl_syntax.proofs.PrintedText.{atom_is}
use Rattle.stl_syntax.specs.declared.scale.Scale.{Scale}
use Rattle.stl_syntax.specs.declared.items.Item.{Item}
use Rattle.stl_syntax.specs.declared.atom.Atom.{Atom}
use Rattle.stl_syntax.specs.declared.node.Node.TheVariants.{Atom as Leaf}
use Rattle.stl_syntax.specs.Print.{IsAtomText}
use Rattle.report.specs.ItemLines.{IsOfAtom, IsItemLine, AreItemsText}
use Rattle.report.specs.Report.{Join, AreJoined, AreItemLines}
use Rattle.answer_lines.proofs.Lines.{number_exists}
use Rattle.answer_lines.proofs.Spans.{span_text}

-- it is so, or it is not
abbrev pub Decided : Type 0 → Type 0
Decided P = P ⊎ ¬ P

both_decided : {P Q : Type 0} → Decided P → Decided Q → Decided (P × Q)
both_decided (inl p) (inl q) = inl (p, q)
both_decided (inl p) (inr q) = inr (λ h. q h.1)
both_decided (inr p) d = inr (λ h. p h.0)

not_decided : {P : Type 0} → Decided P → Decided (¬ P)
not_decided (inl p) = inr (λ h. h p)
not_decided (inr p) = inl p

bools_decided : (a b : Bool) → Decided (a ≡ b)
bools_decided true true = inl refl
bools_decided false false = inl refl
bools_decided true false = inr (λ h. cc)
bools_decided false true = inr (λ h. cc)

times_decided : (t u : Rational) → Decided (t ≈ u)
times_decided t u = by_number (cases_eq (t.up * u.den + u.down * t.den) (u.up * t.den + t.down * u.den))
  where
    by_number : Decided (t.up * u.den + u.down * t.den ≡ u.up * t.den + t.down * u.den) → Decided (t ≈ u)
    by_number (inl e) = inl (record { same = e })
    by_number (inr n) = inr (λ h. n h.same)

touch_decided : (e f : Item) → Decided (Touch (interval e.on) (interval f.on))
touch_decided e f =
    elim (both_decided (times_decided (value f.on.from) (value e.on.to))
    (not_decided (bools_decided f.on.from_in e.on.to_in))) as (λ v. Decided (Touch (interval e.on) (interval f.on))) [
      | inl h ↦ inl (record { time = h.0; once = h.1 })
      | inr n ↦ inr (λ h. n (h.time, h.once))
    ]

-- whether two items join is decided
pub join_decided : (e f : Item) → Decided (Join e f)
join_decided e f = by_parts (cases_eq e.node f.node) (bools_decided e.holds f.holds) (touch_decided e f)
  where
    by_parts : Decided (e.node ≡ f.node) → Decided (e.holds ≡ f.holds) → Decided (Touch (interval e.on) (interval f.on)) → Decided (Join e f)
    by_parts (inl a) (inl b) (inl t) = inl (a, b, t)
    by_parts (inl a) (inl b) (inr t) = inr (λ h. t h.2)
    by_parts (inl a) (inr b) t = inr (λ h. b h.1)
    by_parts (inr a) b t = inr (λ h. a h.0)

-- the line ends as the last item does that joined it
pub record EndsAs (line last : Item) : Type 0 where
  -- of the same node
  pub node : line.node ≡ last.node
  -- with the same truth
  pub holds : line.holds ≡ last.holds
  -- and it ends as the last one does
  pub ends : EndAlike (interval line.on) (interval last.on)

-- so it joins the next item exactly where that does
pub join_line : (line last e : Item) → EndsAs line last → Join line e → Join last e
join_line line last e s j =
    (sym s.node ∙ j.0, sym s.holds ∙ j.1, record { time = same_trans j.2.time s.ends.time; once = λ h. j.2.once (h ∙ sym s.ends.inside) })

-- and the other way round
pub join_last : (line last e : Item) → EndsAs line last → Join last e → Join line e
join_last line last e s j =
    (s.node ∙ j.0, s.holds ∙ j.1, record { time = same_trans j.2.time (same_sym s.ends.time); once = λ h. j.2.once (h ∙ s.ends.inside) })

-- each item ends as itself
pub ends_as_itself : (e : Item) → EndsAs e e
ends_as_itself e = record { node = refl; holds = refl; ends = record { time = same_refl _; inside = refl } }

-- what is left of a room that is not empty
pub at_most : (b : Bool) (t u : Rational) → HasTimeBetween t u b → t ≤ʳ u
at_most b t u h = precedes_le b t u (precedes_of_room b t u h)

-- and where an end is out
pub below : (b : Bool) (t u : Rational) → b ≡ false → HasTimeBetween t u b → t <ʳ u
below b t u e h = precedes_of_room false t u (subst (HasTimeBetween t u) e h)

-- two spans that touch make one
pub touch_room : (a b : Span) → Touch (interval a) (interval b) → HasTimeBetween (value a.from) (value b.to) (a.from_in && b.to_in)
touch_room a b h = room_of_precedes (a.from_in && b.to_in) (value a.from) (value b.to)
    (precedes_of_lt (a.from_in && b.to_in) (value a.from) (value b.to) (by_end (cases_Bool a.to_in) (cases_Bool b.from_in)))
  where
    by_end : (a.to_in ≡ true) ⊎ (a.to_in ≡ false) → (b.from_in ≡ true) ⊎ (b.from_in ≡ false) → value a.from <ʳ value b.to
    by_end (inr e) d =
        lt_of_lt_of_le
        (lt_of_lt_of_le (below (a.from_in && a.to_in) (value a.from) (value a.to) (and_right a.from_in a.to_in e) a.not_empty) (ge_of_same h.time))
        (at_most (b.from_in && b.to_in) (value b.from) (value b.to) b.not_empty)
    by_end (inl e) (inl f) = absurd (h.once (f ∙ sym e))
    by_end (inl e) (inr f) =
        lt_of_le_of_lt (le_trans (at_most (a.from_in && a.to_in) (value a.from) (value a.to) a.not_empty) (ge_of_same h.time))
        (below (b.from_in && b.to_in) (value b.from) (value b.to) (and_left b.from_in b.to_in f) b.not_empty)

-- the lines of some items after a line that is being written
record Continued (f : Formula) (line last : Item) (items : List Item) : Type 0 where
  lines : List Item
  joined : AreJoined line last items lines
  atoms : All (IsOfAtom f) lines

-- the item with the end of the one that joins it
abbrev ended_as : (line e : Item) → Join line e → Item
ended_as line e j = record {
  node = line.node;
  on = record { from = line.on.from; from_in = line.on.from_in; to = e.on.to; to_in = e.on.to_in; not_empty = touch_room line.on e.on j.2 };
  holds = line.holds;
}

continued : (f : Formula) (line last : Item) (items : List Item) → EndsAs line last → IsOfAtom f line → All (IsOfAtom f) items → Continued f line last items
continued f line last [] s own all = record { lines = line ∷ []; joined = refl; atoms = All-cons (IsOfAtom f) line [] own (All-nil (IsOfAtom f)) }
continued f line last (e ∷ items) s own all =
    elim (join_decided last e) as (λ v. Continued f line last (e ∷ items)) [
      | inl j ↦
          let k : Join line e = join_last line last e s j in
          let same : EndsAs (ended_as line e k) e = record { node = k.0; holds = k.1; ends = record { time = same_refl _; inside = refl } } in
          let longer = continued f (ended_as line e k) e items same own (All-tail (IsOfAtom f) e items all) in record {
            lines = longer.lines;
            joined = inl (
              j,
              (ended_as line e k, refl, refl, record { time = same_refl _; inside = refl }, record { time = same_refl _; inside = refl }, longer.joined),
            );
            atoms = longer.atoms;
          }
      | inr n ↦
          let others = continued f e e items (ends_as_itself e) (All-head (IsOfAtom f) e items all) (All-tail (IsOfAtom f) e items all) in record {
            lines = line ∷ others.lines;
            joined = inr (n, (others.lines, refl, others.joined));
            atoms = All-cons (IsOfAtom f) line others.lines own others.atoms;
          }
    ]

-- each span has a text
pub span_exists : (scale : Scale) (on : Span) → (text : List ℕ) × IsSpanText scale on text
span_exists scale on =
    let from = number_exists scale.time (value on.from) in
    let to = number_exists scale.time (value on.to) in
    (_, span_text scale on from.0 to.0 from.1 to.1)

-- and each list of items of atoms
lines_written : (scale : Scale) (f : Formula) (lines : List Item) → All (IsOfAtom f) lines → (text : List ℕ) × AreItemLines scale f lines text
lines_written scale f [] all = ([], refl)
lines_written scale f (e ∷ lines) all =
    let own = All-head (IsOfAtom f) e lines all in
    let on = span_exists scale e.on in
    let later = lines_written scale f lines (All-tail (IsOfAtom f) e lines all) in
    (_, (own.0, own.1, (atom_text f.scale own.0, on.0, later.0, atom_is f.scale own.0, on.1, later.1, refl)))

-- items of atoms have a text
pub items_exist : (scale : Scale) (f : Formula) (items : List Item) → All (IsOfAtom f) items → (text : List ℕ) × AreItemsText scale f items text
items_exist scale f [] all = ([], record { lines = []; joined = refl; written = refl })
items_exist scale f (e ∷ items) all =
    let c = continued f e e items (ends_as_itself e) (All-head (IsOfAtom f) e items all) (All-tail (IsOfAtom f) e items all) in
    let w = lines_written scale f c.lines c.atoms in
    (w.0, record { lines = c.lines; joined = c.joined; written = w.1 })

-- the words between an atom and the span on which it has this truth
abbrev pub truth_words : Bool → List ℕ
truth_words b = codes " " ++ bool_text b ++ codes " on "

-- the line of an item from its parts
pub item_line : (scale : Scale) (f : Formula) (e : Item) (a : Atom) (name on : List ℕ) → slice_get f.nodes e.node ≡ Some (Leaf a)
    → IsAtomText f.scale a name → IsSpanText scale e.on on
    → IsItemLine scale f e (name ++ truth_words e.holds ++ on ++ newline)
item_line scale f e a name on at n s = record { atom = a; at = at; name = name; on = on; name_is = n; on_is = s; is = apart name (bool_text e.holds) on }
  where
    apart : (name word on : List ℕ) → name ++ (codes " " ++ word ++ codes " on ") ++ on ++ newline ≡ name ++ codes " " ++ word ++ codes " on " ++ on ++ newline
    apart name word on = simp append_assoc

-- each item of an atom has a line that begins with the atom's text
pub line_with : (scale : Scale) (f : Formula) (e : Item) (name : List ℕ) → IsOfAtom f e
    → ((a : Atom) → slice_get f.nodes e.node ≡ Some (Leaf a) → IsAtomText f.scale a name)
    → (on : List ℕ) × IsItemLine scale f e (name ++ truth_words e.holds ++ on ++ newline)
line_with scale f e name own n = let on = span_exists scale e.on in (on.0, item_line scale f e own.0 name on.0 own.1 (n own.0 own.1) on.1)

-- and a line
pub line_exists : (scale : Scale) (f : Formula) (e : Item) → IsOfAtom f e → (text : List ℕ) × IsItemLine scale f e text
line_exists scale f e own =
    let on = span_exists scale e.on in (_, item_line scale f e own.0 (atom_text f.scale own.0) on.0 own.1 (atom_is f.scale own.0) on.1)

-- the lines of two lists, one after the other
pub lines_join : (scale : Scale) (f : Formula) (es gs : List Item) (text more : List ℕ) → AreItemLines scale f es text
    → AreItemLines scale f gs more → AreItemLines scale f (es ++ gs) (text ++ more)
lines_join scale f [] gs text more h k = rw h k
lines_join scale f (e ∷ es) gs text more h k =
    let p = h.2 in (
      h.0,
      h.1,
      (
        p.0,
        p.1,
        p.2 ++ more,
        p.3,
        p.4,
        lines_join scale f es gs p.2 more p.5 k,
        ap (λ t. t ++ more) p.6 ∙ append_assoc (p.0 ++ codes " " ++ bool_text e.holds ++ codes " on " ++ p.1 ++ newline) p.2 more,
      ),
    )

-- a line is the lines of a list of one
pub line_of_one : (scale : Scale) (f : Formula) (e : Item) (line : List ℕ) → IsItemLine scale f e line → AreItemLines scale f (e ∷ []) line
line_of_one scale f e line h = (h.atom, h.at, (h.name, h.on, [], h.name_is, h.on_is, refl, h.is ∙ sym (append-nil _)))
