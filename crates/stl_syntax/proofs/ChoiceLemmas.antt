-- What stands first in a chain of choices is at most one.
use Rattle.std.proofs.Common.{◌≡◌, inl, inr, sym, ◌∙◌}
use Rattle.stl_syntax.specs.Choice.{◌or_else◌, Where}

-- at most one of a kind
abbrev pub AtMostOne : {A : Type 0} → (A → Type 0) → Type 0
AtMostOne F = (x y : _) → F x → F y → x ≡ y

-- a choice by a condition is at most one
pub where-unique : {A : Type 0} (P : Type 0) (a : A) → AtMostOne (Where P a)
where-unique P a x y h k = h.1 ∙ sym k.1

-- so is the first of two choices that each are
pub or_else-unique : {A : Type 0} (F G : A → Type 0) → AtMostOne F → AtMostOne G → AtMostOne (F or_else G)
or_else-unique F G f g x y (inl h) (inl k) = f x y h k
or_else-unique F G f g x y (inl h) (inr k) = absurd (k.0 x h)
or_else-unique F G f g x y (inr h) (inl k) = absurd (h.0 y k)
or_else-unique F G f g x y (inr h) (inr k) = g x y h.1 k.1
