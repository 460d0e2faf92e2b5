-- Words ask for one request.
use Rattle.std.proofs.Common.{◌≡◌, inl, inr, ℕ, List, [], ◌∷◌, refl, sym, ap, ◌∙◌, subst, Option, Some, None, if◌then◌else◌}
use Rattle.std.specs.Prelude.{codes, bytes_eq}
use Rattle.stl_syntax.specs.Formula.{Formula}
use Rattle.stl_syntax.proofs.ScalingLemmas.{one_first}
use Rattle.online_nodes.specs.StreamedWide.{IsUnstreamed}
use Rattle.stl_grammar.specs.FormulaRefusals.{IsFormulaOf}
use Rattle.stl_grammar.proofs.LawProofs.{one_formula, one_refusal}
use Rattle.report.specs.Report.{check, robust, explain, json, table}
use Rattle.command_line.proofs.NumberWords.{two_words, one_workload}
use Rattle.command_line.specs.Commands.{Verb, on_formula, generate, IsForm, verb_word}
use Rattle.command_line.specs.Commands as word
use Rattle.workbench.specs.Requests.{Request, no_form, refused, whole, stream, sessions, generated, verdicts, early}
use Rattle.workbench.specs.Requests.{margins, Asks, AreNone, AreFor, AreRefused, IsAsked, IsRefusal, IsUnserved}
use Rattle.command_line.specs.ErrTexts.{formula_fault_text, not_streamed_text}
use Rattle.command_line.proofs.AskedWords.{word_form}

-- ---- forms

-- the command of a word
command_word : List ℕ → Option Verb
command_word text =
    if bytes_eq text (codes "check") then Some word.check else if bytes_eq text (codes "watch") then Some word.watch
    else if bytes_eq text (codes "robust") then Some word.robust else if bytes_eq text (codes "explain") then Some word.explain
    else if bytes_eq text (codes "json") then Some word.json else if bytes_eq text (codes "table") then Some word.table
    else if bytes_eq text (codes "early") then Some word.early else if bytes_eq text (codes "mux") then Some word.mux
    else if bytes_eq text (codes "rwatch") then Some word.rwatch else None

word_back : (j : Verb) → command_word (verb_word j) ≡ Some j
unfolding command_word
word_back word.check = refl
word_back word.watch = refl
word_back word.robust = refl
word_back word.explain = refl
word_back word.json = refl
word_back word.table = refl
word_back word.early = refl
word_back word.mux = refl
word_back word.rwatch = refl

one_word : (j k : Verb) → verb_word j ≡ verb_word k → j ≡ k
one_word j k e = let same : Some j ≡ Some k = sym (word_back j) ∙ ap command_word e ∙ word_back k in cc

-- words of a command's form are of no other
pub one_verb : {words : List (List ℕ)} (j k : Verb) (text other : List ℕ) → IsForm words (on_formula j text)
    → IsForm words (on_formula k other) → (j ≡ k) × (text ≡ other)
one_verb j k text other a b =
    let e : verb_word j ∷ text ∷ [] ≡ verb_word k ∷ other ∷ [] = sym (word_form a) ∙ word_form b in
    (one_word j k (let h : verb_word j ≡ verb_word k = cc in h), (let h : text ≡ other = cc in h))

-- ---- what is asked for

-- the request of a command for a formula
request_of : Verb → Formula → Request
request_of word.check f = whole check f
request_of word.watch f = stream verdicts f
request_of word.robust f = whole robust f
request_of word.explain f = whole explain f
request_of word.json f = whole json f
request_of word.table f = whole table f
request_of word.early f = stream early f
request_of word.mux f = sessions f
request_of word.rwatch f = stream margins f

-- what words ask for, by the command's word
data AskedAs (words : List (List ℕ)) (r : Request) : Type 0 where
  as_none : AreNone words → r ≡ no_form → AskedAs words r
  as_bad : (line : List ℕ) → AreRefused words line → r ≡ refused line → AskedAs words r
  as_formula : (j : Verb) (f : Formula) → AreFor words j f → r ≡ request_of j f → AskedAs words r
  as_made : (n rows : ℕ) → IsAsked words (generate n rows) → r ≡ generated n rows → AskedAs words r

asked_as : (words : List (List ℕ)) (r : Request) → Asks words r → AskedAs words r
unfolding request_of
asked_as words no_form a = as_none a refl
asked_as words (refused line) a = as_bad line a refl
asked_as words (whole check f) a = as_formula word.check f a refl
asked_as words (whole robust f) a = as_formula word.robust f a refl
asked_as words (whole explain f) a = as_formula word.explain f a refl
asked_as words (whole json f) a = as_formula word.json f a refl
asked_as words (whole table f) a = as_formula word.table f a refl
asked_as words (stream verdicts f) a = as_formula word.watch f a refl
asked_as words (stream early f) a = as_formula word.early f a refl
asked_as words (stream margins f) a = as_formula word.rwatch f a refl
asked_as words (sessions f) a = as_formula word.mux f a refl
asked_as words (generated n rows) a = as_made n rows a refl

-- a text is refused with one line
one_unserved : (j : Verb) (f : Formula) (i k : ℕ) → IsUnserved j f i → IsUnserved j f k → i ≡ k
one_unserved word.rwatch f i k a b = one_first IsUnstreamed f.nodes i k a b
one_unserved j f i k a b = absurd a

one_line : (j : Verb) (text line other : List ℕ) → IsRefusal j text line → IsRefusal j text other → line ≡ other
one_line j text line other (inl (r, fault, e)) (inl (q, fault', e')) = e ∙ ap formula_fault_text (one_refusal text r q fault fault') ∙ sym e'
one_line j text line other (inl (r, fault, e)) (inr (f, i, is, un, e')) = absurd (is.sound r fault)
one_line j text line other (inr (f, i, is, un, e)) (inl (r, fault, e')) = absurd (is.sound r fault)
one_line j text line other (inr (f, i, is, un, e)) (inr (g, k, is', un', e')) =
    let same = one_formula text f g is.read is'.read in
    e ∙ ap not_streamed_text (one_unserved j g i k (subst (λ (h : Formula). IsUnserved j h i) same un) un') ∙ sym e'

-- a text that is refused is one of no formula that is served
not_both : (j : Verb) (text line : List ℕ) (f : Formula) → IsRefusal j text line → IsFormulaOf text f → ((i : ℕ) → ¬ IsUnserved j f i) → ⊥
not_both j text line f (inl (r, fault, e)) is served = is.sound r fault
not_both j text line f (inr (g, i, is, un, e)) is' served = served i (subst (λ (h : Formula). IsUnserved j h i) (one_formula text g f is.read is'.read) un)

refusal_of : {words : List (List ℕ)} {line : List ℕ} (a : AreRefused words line) (j : Verb) (text : List ℕ)
    → IsAsked words (on_formula j text) → IsRefusal j text line
refusal_of {words} {line} a j text form =
    let e = one_verb a.command j a.text text a.form.is form.is in
    subst (λ t. IsRefusal j t line) e.1 (subst (λ k. IsRefusal k a.text line) e.0 a.is)

-- words ask for one request
pub one_request : (words : List (List ℕ)) (r q : Request) → Asks words r → Asks words q → r ≡ q
one_request words r q a b = by_cases (asked_as words r a) (asked_as words q b)
  where
    by_cases : AskedAs words r → AskedAs words q → r ≡ q
    by_cases (as_none a e) (as_none b f) = e ∙ sym f
    by_cases (as_none a e) (as_bad line b f) = absurd (a (on_formula b.command b.text) b.form)
    by_cases (as_none a e) (as_formula j g b f) = absurd (a (on_formula j b.text) b.form)
    by_cases (as_none a e) (as_made n rows b f) = absurd (a (generate n rows) b)
    by_cases (as_made n rows a e) (as_none b f) = absurd (b (generate n rows) a)
    by_cases (as_made n rows a e) (as_bad line b f) = absurd (two_words (verb_word b.command) b.text (word_form b.form.is) a.is)
    by_cases (as_made n rows a e) (as_formula j g b f) = absurd (two_words (verb_word j) b.text (word_form b.form.is) a.is)
    by_cases (as_made n rows a e) (as_made m more b f) =
        let same = one_workload a.is b.is in
        e ∙ ap (λ i. generated i rows) same.0 ∙ ap (λ i. generated m i) same.1 ∙ sym f
    by_cases (as_bad line a e) (as_made n rows b f) = absurd (two_words (verb_word a.command) a.text (word_form a.form.is) b.is)
    by_cases (as_formula j g a e) (as_made n rows b f) = absurd (two_words (verb_word j) a.text (word_form a.form.is) b.is)
    by_cases (as_bad line a e) (as_none b f) = absurd (b (on_formula a.command a.text) a.form)
    by_cases (as_bad line a e) (as_bad other b f) = e ∙ ap refused (one_line b.command b.text line other (refusal_of a b.command b.text b.form) b.is) ∙ sym f
    by_cases (as_bad line a e) (as_formula j g b f) = absurd (not_both j b.text line g (refusal_of a j b.text b.form) b.is b.served)
    by_cases (as_formula j g a e) (as_none b f) = absurd (b (on_formula j a.text) a.form)
    by_cases (as_formula j g a e) (as_bad line b f) = absurd (not_both j a.text line g (refusal_of b j a.text a.form) a.is a.served)
    by_cases (as_formula j g a e) (as_formula k h b f) =
        let same = one_verb j k a.text b.text a.form.is b.form.is in
        e ∙ ap (λ i. request_of i g) same.0 ∙ ap (request_of k) (one_formula b.text g h (subst (λ t. IsFormulaOf t g) same.1 a.is).read b.is.read) ∙ sym f
