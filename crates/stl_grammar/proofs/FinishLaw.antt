-- The formula of a text that was read.
use Rattle.std.proofs.Common.{◌≡◌, ℕ, ◌<◌, ◌≤◌, List, [], reverse, refl, sym, ap, ◌∙◌, subst, false, arith, inl, inr, length}
use Rattle.std.specs.Prelude.{IsTrue}
use Rattle.stl_syntax.specs.Characters.{is_blank, all}
use Rattle.stl_syntax.specs.Formula.{Formula}
use Rattle.stl_syntax.specs.Limits.{IsTooLarge}
use Rattle.stl_syntax.specs.WellFormed.{IsScale}
use Rattle.stl_syntax.specs.declared.scale.Scale.{Scale}
use Rattle.stl_syntax.specs.declared.node.Node.{Node}
use Rattle.stl_grammar.specs.Grammar.{IsFormula, FormulaText, time_digits, value_digits}
use Rattle.stl_grammar.specs.FormulaRefusals.{IsFormulaOf, IsFormulaFault, IsLateFault, TokenFault}
use Rattle.stl_grammar.specs.Parsing.{Parse, folded_drafts}
use Rattle.stl_grammar.specs.ReadText.{IsRead, IsParsed}
use Rattle.stl_grammar.specs.Building.{AreNodes, IsBuilt, time_decimals, value_decimals}
use Rattle.stl_grammar.specs.Drafts.{nodes_in}
use Rattle.stl_grammar.proofs.LawProofs.{one_formula}
use Rattle.stl_grammar.proofs.ParserStates.{read_formula}
use Rattle.stl_grammar.proofs.TokensTaken.{digits_small}
use Rattle.stl_grammar.proofs.ReadNodes.{nodes_ready}
use Rattle.stl_grammar.proofs.DigitsSpelled.{time_same, value_same}
use Rattle.stl_grammar.specs.declared.token.Token.{Token as Code}
use Rattle.stl_grammar.specs.declared.fault.FormulaFault.{FormulaFault}
use Rattle.stl_grammar.specs.declared.fault.FormulaFault.TheVariants.{ConstantTooLarge, ReachTooLarge}

-- the scale of the tokens
abbrev pub scale_of : List Code → Scale
scale_of codes = record { time = time_decimals codes; value = value_decimals codes }

module _ (text : List ℕ) (p : Parse) (codes : List Code) (h : IsRead text p codes) where
  time_is : time_digits (reverse h.before) ≡ time_decimals codes
  time_is = ap time_digits h.spelled ∙ time_same text codes

  value_is : value_digits (reverse h.before) ≡ value_decimals codes
  value_is = ap value_digits h.spelled ∙ value_same text codes

  -- its scale is one
  pub read_scale : IsScale (scale_of codes)
  read_scale =
      let d = digits_small text (reverse h.before) h.lexed h.free in
      record { time = subst (λ n. n ≤ 6) time_is d.0; value = subst (λ n. n ≤ 6) value_is d.1 }

  nodes : List Node
  nodes = nodes_in (scale_of codes) (folded_drafts 1 p.frames p.drafts)

  parsed : IsFormula (scale_of codes) 0 (reverse h.before) nodes
  unfolding nodes
  parsed = read_formula h.before p h.reads h.ended (scale_of codes)

  -- its drafts are nodes in it
  pub read_nodes : AreNodes (nodes_in (scale_of codes) (folded_drafts 1 p.frames p.drafts))
  unfolding nodes
  read_nodes = nodes_ready text (scale_of codes) h.lexed h.free parsed (omega (arith, time_is))

  same_scale : (t v u w : ℕ) → t ≡ u → v ≡ w → ◌≡◌ {A = Scale} (record { time = t; value = v }) (record { time = u; value = w })
  same_scale t v u w e f = rw (e, f) refl

  read_text : (f : Formula) → f.nodes ≡ nodes_in (scale_of codes) (folded_drafts 1 p.frames p.drafts) → f.scale ≡ scale_of codes → FormulaText text f
  unfolding nodes
  read_text f n s = record {
    tokens = reverse h.before;
    lexed = h.lexed;
    scale = s ∙ same_scale (time_decimals codes) (value_decimals codes) (time_digits (reverse h.before))
        (value_digits (reverse h.before)) (sym time_is) (sym value_is);
    parsed = rw (n, s) parsed;
  }

  -- a formula that was built of them is that of the text
  pub built_parsed : (f : Formula) (ns : List Node) → ns ≡ nodes_in (scale_of codes) (folded_drafts 1 p.frames p.drafts)
      → IsBuilt (scale_of codes) ns f → IsParsed text f
  built_parsed f ns e b = record { parsed = read_text f (b.nodes ∙ e) b.scale; small = λ r t. b.small r (rw (← b.nodes) t) }

  -- where they are too large the text is refused late
  pub late_fault : (r : FormulaFault) (ns : List Node) → ns ≡ nodes_in (scale_of codes) (folded_drafts 1 p.frames p.drafts)
      → IsTooLarge ConstantTooLarge ReachTooLarge ns r → IsLateFault text r
  late_fault r ns e t =
      (record { nodes = ns; scale = scale_of codes }, read_text (record { nodes = ns; scale = scale_of codes }) e refl, t)

-- what parse answers
module _ (text : List ℕ) (short : length text ≤ 8192) (some : all is_blank text ≡ false) where
  no_empty : ¬ IsTrue (all is_blank text)
  no_empty h = cc

  no_long : ¬ (8192 < length text)
  no_long h = omega (arith, h)

  -- a text that is parsed and that no token refuses is that of the formula
  pub formula_of : (f : Formula) → ((r : FormulaFault) → ¬ TokenFault [] 0 text r) → IsParsed text f → IsFormulaOf text f
  formula_of f free k = record { read = k.parsed; sound = sound }
    where
      sound : (r : FormulaFault) → ¬ IsFormulaFault text r
      sound r (inl (l, e)) = no_long l
      sound r (inr (_, inl (l, e))) = no_empty l
      sound r (inr (_, inr (_, inl t))) = free r t
      sound r (inr (_, inr (_, inr (_, (g, x, t))))) =
          let e : g ≡ f = one_formula text g f x k.parsed in
          k.small r (subst (λ z. IsTooLarge ConstantTooLarge ReachTooLarge z.nodes r) e t)
