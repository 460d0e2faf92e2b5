-- Steps of a node's work, one after the other.
use Rattle.std.proofs.Common.{◌≡◌, ◌≢◌, ◌⊎◌, inl, inr, ℕ, ◌+◌, ◌<◌, List, [], ◌∷◌, ◌++◌, drop, length, get_or, Some, slice_get}
use Rattle.std.proofs.Common.{refl, sym, ap, ◌∙◌, arith, append_assoc, length-append}
use Rattle.std.proofs.lemmas.Bool.{cases_eq}
use Rattle.std.proofs.lemmas.List.{get_or-set_same, get_or-set_other, length-set}
use Rattle.stl_syntax.specs.declared.items.Verdict.{Verdict}
use Rattle.online_nodes.specs.Held.{Held, Edge, no_edge, edge_at, held_of, with_more, with_read}
use Rattle.online_nodes.specs.Written.{HasGot}
use Rattle.online_nodes.specs.Working.{HasPassed, IsReadOn, HasWorked}
use Rattle.node_edges.proofs.DroppingLemmas.{drop-drop}
use Rattle.online_nodes.proofs.GotLemmas.{got-length, got-here, got-other, with_more-none, with_more-both}

-- nothing was read
pub read_none : (old new : Edge) → new ≡ old → IsReadOn old new
read_none old new same =
    record {
      read = 0;
      held = ap held_of same;
      fresh = ap (λ x. x.fresh) same;
      number = ap (λ x. x.number) same;
      joins = ap (λ (x : Edge). x.joins) same;
    }

-- a list with a first item, by its first item
pub first_and_rest : {X : Type 0} (xs : List X) (x : X) → slice_get xs 0 ≡ Some x → xs ≡ x ∷ drop 1 xs
first_and_rest [] x first = cc
first_and_rest (y ∷ xs) x first = cc

-- one verdict was read
pub read_one_more : (x : Edge) (v : Verdict) → slice_get x.fresh 0 ≡ Some v → IsReadOn x (with_read x v)
read_one_more x v first =
    record {
      read = 1;
      held = append_assoc x.seen (v ∷ []) (drop 1 x.fresh) ∙ ap (λ vs. x.seen ++ vs) (sym (first_and_rest x.fresh v first));
      fresh = refl;
      number = refl;
      joins = refl;
    }

-- reading on twice is reading on
pub read_both : (a b c : Edge) → IsReadOn a b → IsReadOn b c → IsReadOn a c
read_both a b c first second =
    record {
      read = first.read + second.read;
      held = second.held ∙ first.held;
      fresh = second.fresh ∙ ap (drop second.read) first.fresh ∙ drop-drop second.read first.read a.fresh;
      number = second.number ∙ first.number;
      joins = second.joins ∙ first.joins;
    }

-- a node that put verdicts and read nothing
pub worked_put : {old new : Held} {own left right : ℕ} {more : List Verdict} → own < length old.edges → left ≢ own → right ≢ own
    → HasGot old new own more → HasWorked old new own left right more
worked_put {old} {new} {own} {left} {right} {more} within apart_left apart_right got =
    record {
      count = got-length got;
      got = got-here got within;
      left_read = read_none _ _ (got-other got left apart_left);
      right_read = read_none _ _ (got-other got right apart_right);
      others = λ j other l r. got-other got j other;
      start = got.start;
      spare = got.spare;
    }

module _ {old new : Held} {i : ℕ} {v : Verdict} (passed : HasPassed old new i v) where
  -- one more verdict of the edge was read
  pub passed-here : edge_at new i ≡ with_read (edge_at old i) v
  passed-here = ap (λ es. get_or es i no_edge) passed.edges ∙ get_or-set_same old.edges i _ no_edge passed.within

  -- the other edges stay
  pub passed-other : (j : ℕ) → j ≢ i → edge_at new j ≡ edge_at old j
  passed-other j other = ap (λ es. get_or es j no_edge) passed.edges ∙ get_or-set_other old.edges i j _ no_edge other

  -- there are as many edges as before
  pub passed-length : length new.edges ≡ length old.edges
  passed-length = ap length passed.edges ∙ length-set old.edges i _

  -- an edge, which may be the one that was read on
  passed-any : (j : ℕ) → IsReadOn (edge_at old j) (edge_at new j)
  passed-any j = elim (cases_eq j i) [
    | inl same ↦ by_same same
    | inr other ↦ read_none _ _ (passed-other j other)
  ]
    where
      by_same : j ≡ i → IsReadOn (edge_at old j) (edge_at new j)
      by_same same = rw (same, passed-here) (read_one_more (edge_at old i) v passed.first)

  -- a node that read a verdict of one of its inputs and put nothing
  pub worked_pass : {own left right : ℕ} → own ≢ i → (i ≡ left) ⊎ (i ≡ right) → HasWorked old new own left right []
  worked_pass {own} {left} {right} apart which =
      record {
        count = passed-length;
        got = passed-other own apart ∙ sym (with_more-none (edge_at old own));
        left_read = passed-any left;
        right_read = passed-any right;
        others = λ j other l r. passed-other j (not_it j l r which);
        start = passed.start;
        spare = omega (arith, passed.spare);
      }
    where
      not_it : (j : ℕ) → j ≢ left → j ≢ right → (i ≡ left) ⊎ (i ≡ right) → j ≢ i
      not_it j l r (inl is) = λ same. l (same ∙ is)
      not_it j l r (inr is) = λ same. r (same ∙ is)

-- nothing was done
pub worked_none : (e : Held) (own left right : ℕ) → HasWorked e e own left right []
worked_none e own left right =
    record {
      count = refl;
      got = sym (with_more-none (edge_at e own));
      left_read = read_none _ _ refl;
      right_read = read_none _ _ refl;
      others = λ j other l r. refl;
      start = refl;
      spare = omega arith;
    }

-- two works, one after the other, are one
pub worked_both : {a b c : Held} {own left right : ℕ} {xs ys : List Verdict} → HasWorked a b own left right xs → HasWorked b c own left right ys
    → HasWorked a c own left right (xs ++ ys)
worked_both {a} {b} {c} {own} {left} {right} {xs} {ys} first second =
    record {
      count = second.count ∙ first.count;
      got = second.got ∙ ap (λ x. with_more x ys) first.got ∙ with_more-both (edge_at a own) xs ys;
      left_read = read_both _ _ _ first.left_read second.left_read;
      right_read = read_both _ _ _ first.right_read second.right_read;
      others = λ j other l r. second.others j other l r ∙ first.others j other l r;
      start = second.start ∙ first.start;
      spare = omega (arith, first.spare, second.spare, length-append xs ys);
    }
