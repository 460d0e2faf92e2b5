-- Objects that take one text after another.
use Rattle.std.proofs.Common.{◌≡◌, ℕ, ◌<◌, zero, suc, ◌+◌, length, string_cmp, arith, Bool, List, [], ◌∷◌, Option, Some, None}
use Rattle.std.proofs.Common.{option_map, String, Global, Ordering, Less, Equal, Greater, string_bytes, nat_cmp, is_eq, cond, refl, sym, ap, ◌∙◌, codes}
use Rattle.std.proofs.lemmas.Option.{same_Some}
use Rattle.std.specs.Cmp.Lexicographic.{slice_cmp}
use Rattle.std.specs.Map.{lookup, set_value, keys_of, values_of}
use Rattle.std.specs.Prelude.{slice_get}
use Rattle.std.specs.Ordering.{match_ordering}
use Rattle.std.specs.BTreeMap.{is_at, insert_entry}
use Rattle.serde_json.specs.Data.{Data, null, boolean, number, string, array, object, Members, no_members, member, put}
use Rattle.serde_json.specs.Find.{as_object, get, get_member}
use Rattle.serde_json.specs.View.{view, members_view}
use Rattle.serde_json.specs.declared.value.Value.{Value}
use Rattle.serde_json.proofs.OnLiterals.{serde_json_on_literals}
use Rattle.serde_json.proofs.Views.{view-lookup, members_view-insert_entry}
use Rattle.report.specs.Forms.{replaced, with_member, knot_object, piece_object, verdict_object, BeginAt, EndAt, IsFirst, IsLast}

abbrev pub Entry : Type 0
Entry = String Global × Value

set_at : (o : Ordering) (e : Entry) (es rest : List Entry) (w : Value) (r : Members) → members_view rest ≡ r
    → members_view (cond (is_eq o) ((e.0, w) ∷ es) (e ∷ rest))
    ≡ match_ordering o (member (string_bytes e.0) (view e.1) r) (member (string_bytes e.0) (view w) (members_view es)) (member (string_bytes e.0) (view e.1) r)
set_at Less e es rest w r h = ap (member (string_bytes e.0) (view e.1)) h
set_at Equal e es rest w r h = refl
set_at Greater e es rest w r h = ap (member (string_bytes e.0) (view e.1)) h

-- what is written at a key of a map replaces a member
pub view-set_value : (name : List ℕ) (es : List Entry) (w : Value)
    → members_view (set_value (is_at (λ k. slice_cmp nat_cmp name (string_bytes k))) es w) ≡ replaced name (view w) (members_view es)
view-set_value name [] w = refl
view-set_value name (e ∷ es) w = set_at (slice_cmp nat_cmp name (string_bytes e.0)) e es _ w _ (view-set_value name es w)

same_at : (o : Ordering) (l : List ℕ) (f e : Data) (ms r : Members) (g : Option Data) → match_ordering o g (Some f) g ≡ Some e → (g ≡ Some e → ms ≡ r)
    → member l f ms ≡ match_ordering o (member l f r) (member l e ms) (member l f r)
same_at Less l f e ms r g h later = ap (member l f) (later h)
same_at Equal l f e ms r g h later = ap (λ x. member l x ms) (same_Some _ _ h)
same_at Greater l f e ms r g h later = ap (member l f) (later h)

-- a member replaced by itself
pub replaced_same : (k : List ℕ) (e : Data) (ms : Members) → get_member k ms ≡ Some e → ms ≡ replaced k e ms
replaced_same k e no_members h = refl
replaced_same k e (member l f ms) h = same_at (slice_cmp nat_cmp k l) l f e ms (replaced k e ms) (get_member k ms) h (replaced_same k e ms)

-- and so in an object
pub with_same : (k : List ℕ) (e d : Data) → get k d ≡ Some e → d ≡ with_member k e d
with_same k e null h = refl
with_same k e (boolean b) h = refl
with_same k e (number n) h = refl
with_same k e (string s) h = refl
with_same k e (array ds) h = refl
with_same k e (object ms) h = ap object (replaced_same k e ms h)

-- the members of a verdict's object
abbrev pub verdict_members : List ℕ → Bool → Members
verdict_members on holds = member (codes "on") (string on) (member (codes "value") (boolean holds) no_members)

-- ---- what stands at the keys of the objects

pub knot_has_at : (a m : List ℕ) → get (codes "at") (knot_object a m) ≡ Some (string a)
unfolding serde_json_on_literals
knot_has_at a m = refl

pub knot_has_margin : (a m : List ℕ) → get (codes "margin") (knot_object a m) ≡ Some (string m)
unfolding serde_json_on_literals
knot_has_margin a m = refl

pub knot_with_at : (a m t : List ℕ) → with_member (codes "at") (string t) (knot_object a m) ≡ knot_object t m
unfolding serde_json_on_literals
knot_with_at a m t = refl

pub knot_with_margin : (a m t : List ℕ) → with_member (codes "margin") (string t) (knot_object a m) ≡ knot_object a t
unfolding serde_json_on_literals
knot_with_margin a m t = refl

pub piece_has_from : (f o t : List ℕ) → get (codes "from") (piece_object f o t) ≡ Some (string f)
unfolding serde_json_on_literals
piece_has_from f o t = refl

pub piece_has_on : (f o t : List ℕ) → get (codes "on") (piece_object f o t) ≡ Some (string o)
unfolding serde_json_on_literals
piece_has_on f o t = refl

pub piece_has_to : (f o t : List ℕ) → get (codes "to") (piece_object f o t) ≡ Some (string t)
unfolding serde_json_on_literals
piece_has_to f o t = refl

pub piece_with_from : (f o t w : List ℕ) → with_member (codes "from") (string w) (piece_object f o t) ≡ piece_object w o t
unfolding serde_json_on_literals
piece_with_from f o t w = refl

pub piece_with_on : (f o t w : List ℕ) → with_member (codes "on") (string w) (piece_object f o t) ≡ piece_object f w t
unfolding serde_json_on_literals
piece_with_on f o t w = refl

pub piece_with_to : (f o t w : List ℕ) → with_member (codes "to") (string w) (piece_object f o t) ≡ piece_object f o w
unfolding serde_json_on_literals
piece_with_to f o t w = refl

pub verdict_has_on : (o : List ℕ) (b : Bool) → get (codes "on") (verdict_object o b) ≡ Some (string o)
unfolding serde_json_on_literals
verdict_has_on o b = refl

pub verdict_with_on : (o w : List ℕ) (b : Bool) → with_member (codes "on") (string w) (verdict_object o b) ≡ verdict_object w b
unfolding serde_json_on_literals
verdict_with_on o w b = refl

pub verdict_with_truth : (o : List ℕ) (b h : Bool) → put (codes "value") (boolean h) (verdict_members o b) ≡ verdict_members o h
unfolding serde_json_on_literals
verdict_with_truth o b h = refl

-- ---- with what the objects begin and end

pub knot_at_first : (a m : List ℕ) → IsFirst (codes "at") (knot_object a m)
unfolding serde_json_on_literals
knot_at_first a m = (_, refl, (a, (refl, refl), λ e. refl))

pub knot_margin_last : (a m : List ℕ) → IsLast (codes "margin") (knot_object a m)
unfolding serde_json_on_literals
knot_margin_last a m = (_, refl, (m, (refl, refl), λ e. refl))

pub piece_from_first : (f o t : List ℕ) → IsFirst (codes "from") (piece_object f o t)
unfolding serde_json_on_literals
piece_from_first f o t = (_, refl, (f, (refl, refl), λ e. refl))

pub piece_to_last : (f o t : List ℕ) → IsLast (codes "to") (piece_object f o t)
unfolding serde_json_on_literals
piece_to_last f o t = (_, refl, (t, (refl, refl), λ e. refl))

pub verdict_on_first : (o : List ℕ) (b : Bool) → IsFirst (codes "on") (verdict_object o b)
unfolding serde_json_on_literals
verdict_on_first o b = (_, refl, (o, (refl, refl), λ e. refl))

-- ---- an object that takes a text is one of its kind

module _ (d e : Data) where
  pub knot_at : (a m t : List ℕ) → d ≡ knot_object a m → e ≡ with_member (codes "at") (string t) d → e ≡ knot_object t m
  knot_at a m t is h = h ∙ ap (with_member (codes "at") (string t)) is ∙ knot_with_at a m t

  pub knot_margin : (a m t : List ℕ) → d ≡ knot_object a m → e ≡ with_member (codes "margin") (string t) d → e ≡ knot_object a t
  knot_margin a m t is h = h ∙ ap (with_member (codes "margin") (string t)) is ∙ knot_with_margin a m t

  pub piece_from : (f o t w : List ℕ) → d ≡ piece_object f o t → e ≡ with_member (codes "from") (string w) d → e ≡ piece_object w o t
  piece_from f o t w is h = h ∙ ap (with_member (codes "from") (string w)) is ∙ piece_with_from f o t w

  pub piece_on : (f o t w : List ℕ) → d ≡ piece_object f o t → e ≡ with_member (codes "on") (string w) d → e ≡ piece_object f w t
  piece_on f o t w is h = h ∙ ap (with_member (codes "on") (string w)) is ∙ piece_with_on f o t w

  pub piece_to : (f o t w : List ℕ) → d ≡ piece_object f o t → e ≡ with_member (codes "to") (string w) d → e ≡ piece_object f o w
  piece_to f o t w is h = h ∙ ap (with_member (codes "to") (string w)) is ∙ piece_with_to f o t w

  pub verdict_on : (o w : List ℕ) (b : Bool) → d ≡ verdict_object o b → e ≡ with_member (codes "on") (string w) d → e ≡ verdict_object w b
  verdict_on o w b is h = h ∙ ap (with_member (codes "on") (string w)) is ∙ verdict_with_on o w b

-- ---- what stands at the end of a map

-- the first key and the first value of a map are what its members begin with
pub begins_with : (k : List ℕ) (e : Data) (es : List Entry) → BeginAt k e (members_view es)
    → (key : String Global) → slice_get (keys_of es) 0 ≡ Some key → (v : Value) → slice_get (values_of es) 0 ≡ Some v
    → (string_bytes key ≡ k) × (view v ≡ e)
begins_with k e [] h key is v at = absurd h
begins_with k e (x ∷ es) (l, f) key is v at = (ap string_bytes (sym (same_Some _ _ is)) ∙ l, ap view (sym (same_Some _ _ at)) ∙ f)

-- a map whose members begin with something is not empty
pub begins_some : (k : List ℕ) (e : Data) (es : List Entry) → BeginAt k e (members_view es) → 0 < length es
begins_some k e [] h = absurd h
begins_some k e (x ∷ es) h = omega arith

-- the last key and the last value of a map are what its members end with
pub ends_with : (k : List ℕ) (e : Data) (es : List Entry) (n : ℕ) → n + 1 ≡ length es → EndAt k e (members_view es)
    → (key : String Global) → slice_get (keys_of es) n ≡ Some key → (v : Value) → slice_get (values_of es) n ≡ Some v
    → (string_bytes key ≡ k) × (view v ≡ e)
ends_with k e [] n count h key is v at = absurd h
ends_with k e (x ∷ []) zero count (l, f) key is v at = (ap string_bytes (sym (same_Some _ _ is)) ∙ l, ap view (sym (same_Some _ _ at)) ∙ f)
ends_with k e (x ∷ []) (suc n) count h key is v at = absurd (omega (arith, count))
ends_with k e (x ∷ y ∷ es) zero count h key is v at = absurd (omega (arith, count))
ends_with k e (x ∷ y ∷ es) (suc n) count h key is v at = ends_with k e (y ∷ es) n (omega (arith, count)) h key is v at

-- a map whose members end with something is not empty
pub ends_some : (k : List ℕ) (e : Data) (es : List Entry) → EndAt k e (members_view es) → 0 < length es
ends_some k e [] h = absurd h
ends_some k e (x ∷ es) h = omega arith

-- what is written at a key is put there
pub written_at : (k : List ℕ) (es ns : List Entry) (key : String Global) (w : Value) (d : Data) → string_bytes key ≡ k
    → ns ≡ insert_entry string_cmp es key w → view w ≡ d → members_view ns ≡ put k d (members_view es)
written_at k es ns key w d name is told =
    ap members_view is ∙ (members_view-insert_entry es key w ∙ (ap (λ l. put l (view w) (members_view es)) name ∙ ap (λ e. put k e (members_view es)) told))

-- an object has but one list of members
pub same_members : (d : Data) (ms ns : Members) → d ≡ object ms → d ≡ object ns → ms ≡ ns
same_members d ms ns e f = same_Some _ _ (ap as_object (sym e ∙ f))

-- ---- finding what stands at a key

-- the value that a map has at a key of a text is that text
pub found : (name : List ℕ) (es : List Entry) (v : Value) (s : List ℕ) → Some v ≡ lookup (is_at (λ k. slice_cmp nat_cmp name (string_bytes k))) es
    → get_member name (members_view es) ≡ Some (string s) → view v ≡ string s
found name es v s e h = same_Some _ _ (ap (option_map view) e ∙ (view-lookup name es ∙ h))

-- there is one
pub not_missed : (name : List ℕ) (es : List Entry) (e : Data) → None ≡ lookup (is_at (λ k. slice_cmp nat_cmp name (string_bytes k))) es
    → get_member name (members_view es) ≡ Some e → ⊥
not_missed name es e n h = let x : None ≡ Some e = ap (option_map view) n ∙ (view-lookup name es ∙ h) in cc

-- what has members is an object
pub object_of : (d : Data) (ms : Members) → Some ms ≡ as_object d → d ≡ object ms
object_of null ms h = absurd (let x = h in cc)
object_of (boolean b) ms h = absurd (let x = h in cc)
object_of (number n) ms h = absurd (let x = h in cc)
object_of (string s) ms h = absurd (let x = h in cc)
object_of (array ds) ms h = absurd (let x = h in cc)
object_of (object ns) ms h = ap object (sym (same_Some _ _ h))

-- so what is one has members
pub not_object : (d : Data) (ms : Members) → d ≡ object ms → None ≡ as_object d → ⊥
not_object d ms e n = let x : None ≡ Some ms = n ∙ ap as_object e in cc

-- and so is what has something at a key
pub has_members : (k : List ℕ) (d e : Data) → get k d ≡ Some e → None ≡ as_object d → ⊥
has_members k null e h n = let x = h in cc
has_members k (boolean b) e h n = let x = h in cc
has_members k (number m) e h n = let x = h in cc
has_members k (string s) e h n = let x = h in cc
has_members k (array ds) e h n = let x = h in cc
has_members k (object ms) e h n = let x = n in cc

-- an object in which a text came to a key
pub object_with : (d : Data) (ms ns : Members) (k : List ℕ) (e : Data) → d ≡ object ms → ns ≡ replaced k e ms → object ns ≡ with_member k e d
object_with d ms ns k e is h = ap object h ∙ sym (ap (with_member k e) is)
