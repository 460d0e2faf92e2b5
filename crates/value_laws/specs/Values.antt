-- The numbers that truth and three-valued truth stand for.
use Rattle.std.specs.Prelude.{ℤ, pos, negsuc, ◌≤ℤ◌, Bool, true, false, Option, Some, None}

-- 1 where it holds, and -1 where it fails
abbrev pub truth_value : Bool → ℤ
truth_value true = pos 1
truth_value false = negsuc 0

-- 1 for certainly true, -1 for certainly false, and 0 for neither
abbrev pub kleene_value : Option Bool → ℤ
kleene_value None = pos 0
kleene_value (Some b) = truth_value b

pub minus_one_to_truth : (b : Bool) → negsuc 0 ≤ℤ truth_value b
minus_one_to_truth true = record { le = tt }
minus_one_to_truth false = record { le = tt }

pub truth_to_one : (b : Bool) → truth_value b ≤ℤ pos 1
truth_to_one true = record { le = tt }
truth_to_one false = record { le = tt }

pub minus_one_to_kleene : (o : Option Bool) → negsuc 0 ≤ℤ kleene_value o
minus_one_to_kleene None = record { le = tt }
minus_one_to_kleene (Some b) = minus_one_to_truth b

pub kleene_to_one : (o : Option Bool) → kleene_value o ≤ℤ pos 1
kleene_to_one None = record { le = tt }
kleene_to_one (Some b) = truth_to_one b
