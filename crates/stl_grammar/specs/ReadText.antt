-- What the reading of a text comes to. A helper for the contracts of the code.
use Rattle.std.specs.Prelude.{◌≡◌, ℕ, ◌+◌, ◌⊎◌, List, [], ◌∷◌, ◌++◌, drop, map, reverse, Some, None}
use Rattle.stl_grammar.specs.Tokens as Tokens
use Rattle.stl_grammar.specs.Tokens.{Lexes}
use Rattle.stl_grammar.specs.FormulaRefusals.{BeginsNoToken, TokenFault, MayEnd}
use Rattle.stl_syntax.specs.Formula.{Formula}
use Rattle.stl_syntax.specs.Limits.{IsTooLarge}
use Rattle.stl_grammar.specs.Grammar.{FormulaText}
use Rattle.stl_grammar.specs.Spelling.{IsLexeme}
use Rattle.stl_grammar.specs.Parsing.{Parse, parse_step}
use Rattle.stl_grammar.specs.Refusing.{refused}
use Rattle.stl_grammar.specs.Machine.{run}
use Rattle.stl_grammar.specs.States.{state_in}
use Rattle.stl_grammar.specs.Taken.{plain}
use Rattle.stl_syntax.specs.declared.scale.Scale.{Scale}
use Rattle.stl_grammar.specs.declared.token.Token.{Token}
use Rattle.stl_grammar.specs.declared.fault.FormulaFault.{FormulaFault}
use Rattle.stl_grammar.specs.declared.fault.FormulaFault.TheVariants.{BadByte, ConstantTooLarge, ReachTooLarge}

-- one token of the text was taken, from place `at` up to place `to`
pub record Advances (text : List ℕ) (at to : ℕ) (old new : Parse) (codes later : List Token) : Type 0 where
  pub code : Token
  pub len : ℕ
  pub lexeme : IsLexeme text (drop at text) code len
  pub place : to ≡ at + len
  pub free : refused text old code (drop (at + len) text) at ≡ None
  pub step : parse_step text old code ≡ Some new
  pub tokens : later ≡ codes ++ code ∷ []

-- the token at place `at` was refused
pub record Refuses (text : List ℕ) (at : ℕ) (old : Parse) (r : FormulaFault) : Type 0 where
  pub code : Token
  pub len : ℕ
  pub lexeme : IsLexeme text (drop at text) code len
  pub refused : refused text old code (drop (at + len) text) at ≡ Some r

-- the reading stops at place `at`
abbrev pub Stops : List ℕ → ℕ → Parse → FormulaFault → Type 0
Stops text at old r = (BeginsNoToken (drop at text) × (r ≡ BadByte at)) ⊎ Refuses text at old r

-- the whole text was read, and none of its tokens is refused
pub record IsRead (text : List ℕ) (p : Parse) (codes : List Token) : Type 0 where
  pub before : List Tokens.Token
  pub reads : (s : Scale) → run s before ≡ Some (state_in s p)
  pub spelled : reverse before ≡ map (plain text) codes
  pub lexed : Lexes text (reverse before)
  pub ended : MayEnd before
  pub free : (r : FormulaFault) → ¬ TokenFault [] 0 text r

-- the formula of the text, of which nothing is too large
pub record IsParsed (text : List ℕ) (f : Formula) : Type 0 where
  pub parsed : FormulaText text f
  pub small : (r : FormulaFault) → ¬ IsTooLarge ConstantTooLarge ReachTooLarge f.nodes r
