-- What an edge got.
use Rattle.std.proofs.Common.{◌≡◌, ◌≢◌, ℕ, ◌<◌, List, [], ◌++◌, length, get_or, set, refl, sym, ap, ◌∙◌, arith, append_assoc, length-append}
use Rattle.std.proofs.lemmas.List.{append-nil, get_or-set_same, get_or-set_other, length-set, set-get_or, set-set}
use Rattle.stl_syntax.specs.declared.items.Verdict.{Verdict}
use Rattle.online_nodes.specs.Held.{Held, Edge, no_edge, edge_at, with_more}
use Rattle.online_nodes.specs.Written.{HasGot}

-- an edge with nothing more stays
pub with_more-none : (x : Edge) → with_more x [] ≡ x
with_more-none x = ap (λ vs. record { seen = x.seen; fresh = vs; number = x.number; joins = x.joins }) (append-nil x.fresh)

-- verdicts more, and then others
pub with_more-both : (x : Edge) (xs ys : List Verdict) → with_more (with_more x xs) ys ≡ with_more x (xs ++ ys)
with_more-both x xs ys = ap (λ vs. record { seen = x.seen; fresh = vs; number = x.number; joins = x.joins }) (append_assoc x.fresh xs ys)

-- nothing more was put
pub got_none : (e : Held) (i : ℕ) → HasGot e e i []
got_none e i =
    record {
      edges = sym (ap (set e.edges i) (with_more-none (edge_at e i)) ∙ set-get_or e.edges i no_edge);
      start = refl;
      spare = omega arith;
    }

module _ {old new : Held} {i : ℕ} {more : List Verdict} (got : HasGot old new i more) where
  -- there are as many edges as before
  pub got-length : length new.edges ≡ length old.edges
  got-length = ap length got.edges ∙ length-set old.edges i _

  -- edge i has them at its back
  pub got-here : i < length old.edges → edge_at new i ≡ with_more (edge_at old i) more
  got-here within = ap (λ es. get_or es i no_edge) got.edges ∙ get_or-set_same old.edges i _ no_edge within

  -- and each other edge is as it was
  pub got-other : (j : ℕ) → j ≢ i → edge_at new j ≡ edge_at old j
  got-other j other = ap (λ es. get_or es j no_edge) got.edges ∙ get_or-set_other old.edges i j _ no_edge other

-- one list and then another
pub got_both : {a b c : Held} {i : ℕ} {xs ys : List Verdict} → i < length a.edges → HasGot a b i xs → HasGot b c i ys
    → HasGot a c i (xs ++ ys)
got_both {a} {b} {c} {i} {xs} {ys} within first second =
    record {
      edges = second.edges ∙ ap (λ x. set b.edges i (with_more x ys)) (got-here first within)
          ∙ ap (λ es. set es i (with_more (with_more (edge_at a i) xs) ys)) first.edges
          ∙ set-set a.edges i _ _
          ∙ ap (set a.edges i) (with_more-both (edge_at a i) xs ys);
      start = second.start ∙ first.start;
      spare = omega (arith, first.spare, second.spare, length-append xs ys);
    }
