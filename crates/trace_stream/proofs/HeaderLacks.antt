-- What a header lacks for a formula, and what one that lacks nothing begins.
use Rattle.std.proofs.Common.{◌≡◌, ℕ, ◌≤◌, List, [], ◌∷◌, max, refl, sym, ap, ◌∙◌, subst, inl, inr, ◌⊎◌, arith, Result, Ok, Err}
use Rattle.std.specs.Prelude.{All}
use Rattle.stl_syntax.specs.Trace.{Header}
use Rattle.stl_syntax.specs.Formula.{Formula}
use Rattle.stl_syntax.specs.Scaling.{scaled}
use Rattle.stl_syntax.specs.Binding.{HasColumns, IsUnknown, IsUnitFault}
use Rattle.stl_syntax.specs.declared.scale.UnitFault.{UnitFault}
use Rattle.stl_syntax.specs.declared.scale.UnitFault.TheVariants.{Constant, Reach, Memory as NoRoom}
use Rattle.stl_syntax.specs.declared.scale.Scale.{Scale}
use Rattle.trace_reader.specs.TraceText.{Heading, greatest, scale_of}
use Rattle.trace_reader.specs.Reader.{header_of}
use Rattle.atom_lines.specs.Binding.{IsBound}
use Rattle.trace_reader.specs.InputFaults.{Fault, unknown, unit}
use Rattle.atom_lines.specs.Faults.{IsBindFault}
use Rattle.atom_lines.specs.declared.binding.BindFault.{BindFault}
use Rattle.atom_lines.specs.declared.binding.BindFault.TheVariants.{UnknownColumn, Memory}
use Rattle.trace_stream.specs.Cases.{stop_of, stop_of_unit, IsNamed, IsNoBegin, IsBegun, IsLacking}
use Rattle.trace_stream.specs.declared.case.Case.{Case}
use Rattle.trace_stream.specs.declared.fault.TraceFault.TheVariants.{Unit as InTicks}
use Rattle.trace_stream.specs.declared.fault.StreamStop.TheVariants.{Fault as Faulty}
use Rattle.trace_stream.proofs.Columns.{none_unknown, unknown_unscaled, columns_unscaled}

-- the greatest of numbers is no less than the first
pub greatest_least : (n : ℕ) (xs : List ℕ) → n ≤ greatest n xs
greatest_least n [] = omega arith
greatest_least n (x ∷ xs) = omega (arith, greatest_least (max n x) xs)

-- the ticks of a header have at least the decimals that are asked for
pub finer : (least : Scale) (h : Heading) → (least.time ≤ (scale_of least h).time) × (least.value ≤ (scale_of least h).value)
finer least h = (omega arith, greatest_least least.value h.digits)

named_of : (f : Formula) (columns : _) (atom term : ℕ) (name : List ℕ) → IsUnknown columns f atom term name → IsNamed f atom term name
named_of f columns atom term name u = record { owner = u.owner; part = u.lacking; at_atom = u.at_atom; at_term = u.at_term; named = u.named }

module _ (f : Formula) (n : ℕ) (header : Header) (h : Heading) (e : header ≡ header_of f.scale h) where
  lacks_ticks : All (HasColumns header.columns) f.nodes → (fault : UnitFault) → IsUnitFault f header.scale fault → IsNoBegin f n h (Faulty (InTicks n fault))
  lacks_ticks all fault is =
      let columns : All (HasColumns h.columns) f.nodes = subst (λ (x : Header). All (HasColumns x.columns) f.nodes) e all in
      let ticks : IsUnitFault f (scale_of f.scale h) fault = subst (λ (x : Header). IsUnitFault f x.scale fault) e is in
      (unit n fault, refl, inr (λ x u. none_unknown h.columns f columns u.0 u.1 u.2 u.3, (fault, ticks, refl)))

  -- a header in whose ticks the formula's numbers do not fit begins no case
  pub lacks_unit : All (HasColumns header.columns) f.nodes → (fault : UnitFault)
      → (fault ≡ NoRoom) ⊎ IsUnitFault f header.scale fault → IsNoBegin f n h (stop_of_unit n fault)
  lacks_unit all NoRoom is = tt
  lacks_unit all (Constant i) (inl e) = absurd (let k = e in cc)
  lacks_unit all (Constant i) (inr is) = lacks_ticks all (Constant i) is
  lacks_unit all (Reach i) (inl e) = absurd (let k = e in cc)
  lacks_unit all (Reach i) (inr is) = lacks_ticks all (Reach i) is

  -- a header that lacks a column of the formula begins no case
  pub lacks_column : (b : BindFault) → IsBindFault header.columns f b → IsNoBegin f n h (stop_of n b)
  lacks_column (UnknownColumn atom term) (name, u) =
      let mine = subst (λ (x : Header). IsUnknown x.columns f atom term name) e u in
      (unknown n atom term name, (name, named_of f h.columns atom term name mine, refl), inl (atom, term, name, mine, refl))
  lacks_column Memory u = tt

  -- a header that lacks a column of the scaled formula begins no case
  pub lacks_scaled : (g : Formula) → g ≡ scaled f header.scale → (b : BindFault) → IsBindFault header.columns g b → IsNoBegin f n h (stop_of n b)
  lacks_scaled g is (UnknownColumn atom term) (name, u) =
      lacks_column (UnknownColumn atom term)
      (name, unknown_unscaled header.columns f header.scale atom term name (subst (λ (g : Formula). IsUnknown header.columns g atom term name) is u))
  lacks_scaled g is Memory u = tt

  -- a header that lacks nothing begins a case
  pub begun : (c : Case) → c.trace ≡ record { header = header; rows = [] } → c.formula ≡ scaled f header.scale → IsBound c.bound c.formula header
      → All (HasColumns header.columns) c.formula.nodes → ((u : UnitFault) → ¬ IsUnitFault f header.scale u) → IsBegun f n h c
  begun c trace formula bound all fits = record {
    trace = trace ∙ ap (λ (x : Header). record { header = x; rows = [] }) e;
    case = record {
      formula = subst (λ (t : _). c.formula ≡ scaled f t.header.scale) (sym trace) formula;
      bound = subst (λ (t : _). IsBound c.bound c.formula t.header) (sym trace) bound;
    };
    fits = λ x l. none x l;
  }
    where
      columns : All (HasColumns header.columns) f.nodes
      columns = columns_unscaled header.columns _ _ f.nodes (subst (λ (g : Formula). All (HasColumns header.columns) g.nodes) formula all)

      none : (x : Fault) → ¬ IsLacking f n h x
      none x (inl (atom, term, name, u, is)) =
          none_unknown header.columns f columns atom term name (subst (λ (y : Header). IsUnknown y.columns f atom term name) (sym e) u)
      none x (inr (known, (fault, u, is))) = fits fault (subst (λ (y : Header). IsUnitFault f y.scale fault) (sym e) u)

-- a formula that was scaled has no numbers that do not fit
pub unit_fits : (f : Formula) (s : Scale) (r : Result Formula UnitFault) (g : Formula) → r ≡ Ok g
    → ((u : UnitFault) → IsUnitFault f s u → (r ≡ Err u) ⊎ (r ≡ Err NoRoom)) → (u : UnitFault) → ¬ IsUnitFault f s u
unit_fits f s r g is refused u h = by_case (refused u h)
  where
    by_case : (r ≡ Err u) ⊎ (r ≡ Err NoRoom) → ⊥
    by_case (inl e) = let k : ◌≡◌ {A = Result Formula UnitFault} (Ok g) (Err u) = sym is ∙ e in cc
    by_case (inr e) = let k : ◌≡◌ {A = Result Formula UnitFault} (Ok g) (Err NoRoom) = sym is ∙ e in cc
