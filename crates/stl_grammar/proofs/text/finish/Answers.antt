-- The nodes are those of the formula of the text.
use Rattle.std.proofs.Common.{◌≡◌, ℕ, List, ap, sym, ◌∙◌, subst, refl, inl, inr}
use Rattle.std.proofs.lemmas.Result.{IfOk-weaker, IfErr-weaker}
use Rattle.stl_syntax.specs.WellFormed.{IsScale}
use Rattle.stl_syntax.specs.declared.scale.Scale.{Scale}
use Rattle.stl_grammar.specs.Building.{AreNodes, IsBuilt, time_decimals, value_decimals}
use Rattle.stl_grammar.specs.Drafts.{nodes_in}
use Rattle.stl_grammar.specs.declared.token.Token.{Token}
use Rattle.stl_grammar.proofs.FinishLaw.{scale_of, read_scale, read_nodes, built_parsed, late_fault}
use Rattle.stl_grammar.proofs.text.finish.Goals as goal

scale_is : (t v : ℕ) (a b codes : List Token) → t ≡ time_decimals a → v ≡ value_decimals b → a ≡ codes → b ≡ codes
    → ◌≡◌ {A = Scale} (record { time = t; value = v }) (scale_of codes)
scale_is t v a b codes e f g h = rw (e, f, g, h) refl

pub build-requires-clause-scale : goal.build-requires-clause-scale
build-requires-clause-scale c =
    let s = scale_is c.time_decimals.result c.value_decimals.result _ _ _ c.time_decimals.ensures c.value_decimals.ensures
    c.deref.ensures.value c.deref-2.ensures.value in
    subst IsScale (sym s) (read_scale c.args.text.now c.args.reading.parser c.args.reading.tokens.items c.requires.read)

pub build-requires-clause-nodes : goal.build-requires-clause-nodes
build-requires-clause-nodes c =
    let s = scale_is c.time_decimals.result c.value_decimals.result _ _ _ c.time_decimals.ensures c.value_decimals.ensures
    c.deref.ensures.value c.deref-2.ensures.value in
    subst (λ z. AreNodes (nodes_in z c.in-Ok.drafts.items)) (sym s)
    (subst (λ ds. AreNodes (nodes_in (scale_of c.args.reading.tokens.items) ds)) (sym c.in-Ok.ensures)
    (read_nodes c.args.text.now c.args.reading.parser c.args.reading.tokens.items c.requires.read))

pub returns-clause-ok : goal.returns-clause-ok
returns-clause-ok c =
    let s = scale_is c.time_decimals.result c.value_decimals.result _ _ _ c.time_decimals.ensures c.value_decimals.ensures
    c.deref.ensures.value c.deref-2.ensures.value in
    IfOk-weaker c.build.result _ _
    (λ f b. built_parsed c.args.text.now c.args.reading.parser c.args.reading.tokens.items c.requires.read f _
    (ap (nodes_in (scale_of c.args.reading.tokens.items)) c.in-Ok.ensures)
    (subst (λ z. IsBuilt z (nodes_in z c.in-Ok.drafts.items) f) s b)) c.build.ensures.ok

pub returns-clause-fault : goal.returns-clause-fault
returns-clause-fault c =
    let s = scale_is c.time_decimals.result c.value_decimals.result _ _ _ c.time_decimals.ensures c.value_decimals.ensures
    c.deref.ensures.value c.deref-2.ensures.value in
    IfErr-weaker c.build.result _ _
    (λ r b. elim b [
      | inl m ↦ inl m
      | inr t ↦ inr (late_fault c.args.text.now c.args.reading.parser c.args.reading.tokens.items c.requires.read r _
          (ap (λ z. nodes_in z c.in-Ok.drafts.items) s ∙ ap (nodes_in (scale_of c.args.reading.tokens.items)) c.in-Ok.ensures) t)
    ]) c.build.ensures.fault
