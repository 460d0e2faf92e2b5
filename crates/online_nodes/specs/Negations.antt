-- How a negation goes through its input.
use Rattle.std.specs.Prelude.{◌≡◌, ℕ, ◌+◌, ◌≤◌, suc, Bool, not, List, ◌++◌, length, Some, slice_get}
use Rattle.rational.specs.Time.{Rational}
use Rattle.frac128.specs.Spans.{interval}
use Rattle.stl_syntax.specs.Trace.{Trace}
use Rattle.stl_syntax.specs.Formula.{Subformula}
use Rattle.stl_syntax.specs.Truth.{Truth}
use Rattle.stl_syntax.specs.declared.items.Verdict.{Verdict}
use Rattle.rational.specs.Places.{Place, ends, AtMost}
use Rattle.frac128.specs.Cuts.{place}
use Rattle.online_nodes.specs.Held.{Held, fresh_at}
use Rattle.online_nodes.specs.Truths.{Is}
use Rattle.online_nodes.specs.Written.{HasTold, IsSound}
use Rattle.online_nodes.specs.Working.{HasWorked}
use Rattle.online_nodes.specs.Joins.{IsReadTo}
use Rattle.online_nodes.specs.declared.writer.Out.{Out}

-- n is the negation of p
abbrev pub IsNotOf : Subformula → Subformula → Trace → Type 0
IsNotOf n p tr = (t : Rational) (x : Bool) → Is x (Truth p tr) t → Is (not x) (Truth n tr) t

-- what was written is told, and the input was read no further than that
pub record IsNegating (n p : Subformula) (tr : Trace) (begin : Place) (written : List Verdict) (out : Out) (read stop : Place)
    (fresh : List Verdict) : Type 0 where
  pub told : HasTold n tr begin written out
  pub input : IsReadTo p tr out read stop fresh

-- nothing changed, and a verdict that was not read reaches beyond the stretch
pub record HasWaited (old new : Held) (of : ℕ) (out : Out) : Type 0 where
  pub same : new ≡ old
  pub beyond : (v : Verdict) → slice_get (fresh_at old of) 0 ≡ Some v → AtMost (place out.to) (ends (interval v.on))

-- one verdict was read, at most one was put, and what is told and read goes on
pub record HasReadNext (old new : Held) (of : ℕ) (out next : Out) : Type 0 where
  pub more : List Verdict
  pub few : length more ≤ 1
  pub worked : HasWorked old new out.edge of of more
  pub one : length (fresh_at old of) ≡ suc (length (fresh_at new of))
  pub edge : next.edge ≡ out.edge
  pub end : next.to ≡ out.to
  pub sound : IsSound next
  pub inside : AtMost (place next.at) (place out.to)
  pub goes : (n p : Subformula) (tr : Trace) (begin : Place) (written : List Verdict) (read stop : Place) → IsNotOf n p tr
      → IsNegating n p tr begin written out read stop (fresh_at old of)
      → (from : Place) × IsNegating n p tr begin (written ++ more) next from stop (fresh_at new of)

-- the rest of the stretch was told, by at most one verdict more
pub record HasDenied (old new : Held) (of : ℕ) (out end : Out) : Type 0 where
  pub more : List Verdict
  pub few : length more ≤ 1
  pub worked : HasWorked old new out.edge of of more
  pub edge : end.edge ≡ out.edge
  pub to : end.to ≡ out.to
  pub sound : IsSound end
  pub inside : AtMost (place end.at) (place out.to)
  pub fills : (n p : Subformula) (tr : Trace) (begin : Place) (written : List Verdict) (read stop : Place) → IsNotOf n p tr
      → ((v : Verdict) → slice_get (fresh_at old of) 0 ≡ Some v → AtMost (place out.to) (ends (interval v.on)))
      → IsNegating n p tr begin written out read stop (fresh_at old of)
      → IsNegating n p tr begin (written ++ more) end read stop (fresh_at new of) × AtMost (place out.to) (place end.at)

-- all that the input had ready was taken, and the stretch is told to its end
pub record HasNegated (old new : Held) (of : ℕ) (out end : Out) : Type 0 where
  pub more : List Verdict
  pub few : length more ≤ length (fresh_at old of) + 1
  pub worked : HasWorked old new out.edge of of more
  pub edge : end.edge ≡ out.edge
  pub to : end.to ≡ out.to
  pub sound : IsSound end
  pub inside : AtMost (place end.at) (place out.to)
  pub goes : (n p : Subformula) (tr : Trace) (begin : Place) (written : List Verdict) (read stop : Place) → IsNotOf n p tr
      → IsNegating n p tr begin written out read stop (fresh_at old of)
      → (from : Place) × IsNegating n p tr begin (written ++ more) end from stop (fresh_at new of) × AtMost (place out.to) (place end.at)
