-- What each bench hears in what `mux` writes: the stream of its own lines.
use Rattle.std.proofs.Common.{◌≡◌, ℕ, ◌+◌, Bool, true, false, cond, List, [], ◌∷◌, ◌++◌, length, refl, sym, ap, ◌∙◌, subst}
use Rattle.std.specs.Prelude.{All, codes, bytes_eq, ◌||◌, ◌==◌}
use Rattle.std.proofs.lemmas.Bool.{false≢true, eqb-true}
use Rattle.std.proofs.lemmas.List.Elements.{All-nil, All-cons, All-head, All-tail, All-append}
use Rattle.std.proofs.lemmas.Slice.Eq.{bytes_eq-Decides}
use Rattle.stl_syntax.specs.Characters.{is_among, goes_on_word, all}
use Rattle.stl_syntax.specs.Formula.{Formula}
use Rattle.stl_syntax.specs.declared.scale.Scale.{Scale}
use Rattle.stl_syntax.specs.declared.atom.Atom.{Atom as Comparison}
use Rattle.stl_syntax.specs.declared.atom.Term.{Term}
use Rattle.stl_syntax.specs.declared.node.Node.{Node}
use Rattle.stl_syntax.specs.declared.node.Node.TheVariants.{Const, Atom as Leaf, Not, And, Or, Implies, Until, Eventually, Always, Since, Once, Historically}
use Rattle.stl_syntax.proofs.CharacterLemmas.{begins_goes_on}
use Rattle.stl_grammar.specs.Tokens.{IsToken, a_word}
use Rattle.stl_grammar.specs.Tokens.{nothing as no_tokens, blank, token}
use Rattle.stl_grammar.specs.Grammar.{top, Token, word, number, relation, open_paren, close_paren, star, plus, minus, Lexes}
use Rattle.stl_grammar.specs.Grammar.{IsTerm, name, scaled, AreTerms, none, more_plus, more_minus, IsAtom, first, signed}
use Rattle.stl_grammar.specs.Grammar.{IsFormula, IsDisjunct, IsConjunct, IsTimed, IsOperand, disjunct, implies}
use Rattle.stl_grammar.specs.Grammar.{conjunct, or, timed, and, operand, until, since, not, eventually, always}
use Rattle.stl_grammar.specs.Grammar.{once, historically, always_true, always_false, parens, atom}
use Rattle.stl_grammar.specs.FormulaRefusals.{IsFormulaOf}
use Rattle.stl_grammar.proofs.PrintedRead.{all_left, all_right}
use Rattle.trace_reader.specs.TraceText.{Line, lines}
use Rattle.trace_stream.proofs.Columns.{All-get}
use Rattle.session_mux.specs.Sessions.{Tagged, IsTag, AreTagged, none as none_tagged, unfinished, blank as blank_line, next, own, Alone, tags_after, MuxText}
use Rattle.session_mux.specs.SessionsAlone.{lines_of}
use Rattle.session_laws.specs.Hearing.{heard, is_plain, HasPlainNames, HaveTags}
use Rattle.session_mux.specs.Inputs.{AreLinesBefore, sound, faulted}
use Rattle.session_mux.specs.Saying.{texts}
use Rattle.session_mux.proofs.TagLemmas.{tag_is}
use Rattle.session_laws.proofs.EndsSaid.{as_alone_to_its_end}
use Rattle.session_mux.proofs.OneText.{text_alone_once}
use Rattle.session_laws.proofs.SessionsSaid.{own_of_lines}
use Rattle.session_laws.proofs.HearingLemmas.{both_are, hears_its_end}
use Rattle.session_laws.proofs.OwedLines.{tagged_lines_once}
use Rattle.workbench.specs.Requests.{sessions}
use Rattle.workbench.specs.Ended.{IsAnswered}

-- ---- the names of a formula that was read

-- a word has no LF
abbrev IsPlainToken : Token → Type 0
IsPlainToken (word w) = is_plain w ≡ true
IsPlainToken t = Unit {0}

abbrev IsPlainTerm : Term → Type 0
IsPlainTerm t = is_plain t.name ≡ true

abbrev IsPlainNode : Node → Type 0
IsPlainNode (Leaf a) = All IsPlainTerm a.terms
IsPlainNode n = Unit {0}

-- a letter of a word is no LF
plain_byte : (c : ℕ) → goes_on_word c ≡ true → (c == 10) ≡ false
plain_byte c h = by_test (c == 10) refl
  where
    by_test : (b : Bool) → (c == 10) ≡ b → b ≡ false
    by_test false e = refl
    by_test true e = absurd (false≢true (subst (λ d. goes_on_word d ≡ true) (let k : c ≡ 10 = eqb-true c 10 e in k) h))

plain_word : (w : List ℕ) → all goes_on_word w ≡ true → is_plain w ≡ true
plain_word [] h = refl
plain_word (c ∷ w) h = let (here, later) = both_are (goes_on_word c) (all goes_on_word w) h in rw (plain_byte c here) (plain_word w later)

plain_token : {bytes text : List ℕ} {t : Token} → IsToken bytes text t → IsPlainToken t
plain_token (a_word {c} {rest} begins goes stops) = plain_word (c ∷ rest) (rw (begins_goes_on c begins) goes)
plain_token other = tt

plain_tokens : {text : List ℕ} {ts : List Token} → Lexes text ts → All IsPlainToken ts
plain_tokens no_tokens = All-nil IsPlainToken
plain_tokens (blank b more) = plain_tokens more
plain_tokens (token {t = t} {tokens = ts} bytes text e is more) = All-cons IsPlainToken t ts (plain_token is) (plain_tokens more)

-- behind a token and further ones
after_word : (t : Token) (ts us : List Token) → All IsPlainToken (ts ++ t ∷ us) → All IsPlainToken us
after_word t ts us a = All-tail IsPlainToken t us (all_right IsPlainToken ts (t ∷ us) a)

plain_term : {ts : List Token} {k : ℕ} {w : List ℕ} → IsTerm ts k w → All IsPlainToken ts → is_plain w ≡ true
plain_term (name {w} r) a = All-head IsPlainToken (word w) [] a
plain_term (scaled {n} {k} {w} r) a = All-head IsPlainToken (word w) []
    (All-tail IsPlainToken star (word w ∷ []) (All-tail IsPlainToken (number n k) (star ∷ word w ∷ []) a))

plain_terms : {ts : List Token} {terms : List Term} → AreTerms ts terms → All IsPlainToken ts → All IsPlainTerm terms
plain_terms none a = All-nil IsPlainTerm
plain_terms (more_plus {ts = ts} {us = us} {terms = terms} t more) a =
    let b = All-tail IsPlainToken plus (ts ++ us) a in
    All-cons IsPlainTerm _ terms (plain_term t (all_left IsPlainToken ts us b)) (plain_terms more (all_right IsPlainToken ts us b))
plain_terms (more_minus {ts = ts} {us = us} {terms = terms} t more) a =
    let b = All-tail IsPlainToken minus (ts ++ us) a in
    All-cons IsPlainTerm _ terms (plain_term t (all_left IsPlainToken ts us b)) (plain_terms more (all_right IsPlainToken ts us b))

plain_atom : {d : ℕ} {ts : List Token} {c : Comparison} → IsAtom d ts c → All IsPlainToken ts → All IsPlainTerm c.terms
plain_atom (first {ts = ts} {us = us} {vs = vs} {terms = terms} {rel = rel} t more k) a =
    let b = all_left IsPlainToken (ts ++ us) (relation rel ∷ vs) a in
    All-cons IsPlainTerm _ terms (plain_term t (all_left IsPlainToken ts us b)) (plain_terms more (all_right IsPlainToken ts us b))
plain_atom (signed {us = us} {vs = vs} {rel = rel} terms k) a = plain_terms terms (all_left IsPlainToken us (relation rel ∷ vs) a)

-- one node more behind some, or behind two lists of them
with_one : (ns : List Node) (n : Node) → IsPlainNode n → All IsPlainNode ns → All IsPlainNode (ns ++ n ∷ [])
with_one ns n is a = All-append IsPlainNode ns (n ∷ []) a (All-cons IsPlainNode n [] is (All-nil IsPlainNode))

with_two : (ns ms : List Node) (n : Node) → IsPlainNode n → All IsPlainNode ns → All IsPlainNode ms → All IsPlainNode (ns ++ ms ++ n ∷ [])
with_two ns ms n is a b = with_one (ns ++ ms) n is (All-append IsPlainNode ns ms a b)

mutual
  plain_formula : {s : Scale} {k : ℕ} {ts : List Token} {ns : List Node} → IsFormula s k ts ns → All IsPlainToken ts → All IsPlainNode ns
  plain_formula (disjunct d) a = plain_disjunct d a
  plain_formula (implies {k = k} {ts = ts} {us = us} {ns = ns} {ms = ms} d f) a =
      with_two ns ms (Implies (top k ns) (top (k + length ns) ms)) tt (plain_disjunct d (all_left IsPlainToken ts (word (codes "implies") ∷ us) a))
      (plain_formula f (after_word (word (codes "implies")) ts us a))

  plain_disjunct : {s : Scale} {k : ℕ} {ts : List Token} {ns : List Node} → IsDisjunct s k ts ns → All IsPlainToken ts → All IsPlainNode ns
  plain_disjunct (conjunct c) a = plain_conjunct c a
  plain_disjunct (or {k = k} {ts = ts} {us = us} {ns = ns} {ms = ms} d c) a =
      with_two ns ms (Or (top k ns) (top (k + length ns) ms)) tt (plain_disjunct d (all_left IsPlainToken ts (word (codes "or") ∷ us) a))
      (plain_conjunct c (after_word (word (codes "or")) ts us a))

  plain_conjunct : {s : Scale} {k : ℕ} {ts : List Token} {ns : List Node} → IsConjunct s k ts ns → All IsPlainToken ts → All IsPlainNode ns
  plain_conjunct (timed t) a = plain_timed t a
  plain_conjunct (and {k = k} {ts = ts} {us = us} {ns = ns} {ms = ms} c t) a =
      with_two ns ms (And (top k ns) (top (k + length ns) ms)) tt (plain_conjunct c (all_left IsPlainToken ts (word (codes "and") ∷ us) a))
      (plain_timed t (after_word (word (codes "and")) ts us a))

  plain_timed : {s : Scale} {k : ℕ} {ts : List Token} {ns : List Node} → IsTimed s k ts ns → All IsPlainToken ts → All IsPlainNode ns
  plain_timed (operand p) a = plain_operand p a
  plain_timed (until {k = k} {a = low} {b = high} {ts = ts} {us = us} {vs = vs} {ns = ns} {ms = ms} p w q) a =
      with_two ns ms (Until (top k ns) (top (k + length ns) ms) low high) tt
      (plain_operand p (all_left IsPlainToken ts (word (codes "until") ∷ us) (all_left IsPlainToken (ts ++ word (codes "until") ∷ us) vs a)))
      (plain_operand q (all_right IsPlainToken (ts ++ word (codes "until") ∷ us) vs a))
  plain_timed (since {k = k} {a = low} {b = high} {ts = ts} {us = us} {vs = vs} {ns = ns} {ms = ms} p w q) a =
      with_two ns ms (Since (top k ns) (top (k + length ns) ms) low high) tt
      (plain_operand p (all_left IsPlainToken ts (word (codes "since") ∷ us) (all_left IsPlainToken (ts ++ word (codes "since") ∷ us) vs a)))
      (plain_operand q (all_right IsPlainToken (ts ++ word (codes "since") ∷ us) vs a))

  plain_operand : {s : Scale} {k : ℕ} {ts : List Token} {ns : List Node} → IsOperand s k ts ns → All IsPlainToken ts → All IsPlainNode ns
  plain_operand (not {k = k} {ts = ts} {ns = ns} p) a = with_one ns (Not (top k ns)) tt (plain_operand p (All-tail IsPlainToken (word (codes "not")) ts a))
  plain_operand (eventually {k = k} {a = low} {b = high} {a_in} {b_in} {ts = ts} {us = us} {ns = ns} w p) a =
      with_one ns (Eventually (top k ns) low high a_in b_in) tt
      (plain_operand p (all_right IsPlainToken us ts (All-tail IsPlainToken (word (codes "eventually")) (us ++ ts) a)))
  plain_operand (always {k = k} {a = low} {b = high} {a_in} {b_in} {ts = ts} {us = us} {ns = ns} w p) a =
      with_one ns (Always (top k ns) low high a_in b_in) tt
      (plain_operand p (all_right IsPlainToken us ts (All-tail IsPlainToken (word (codes "always")) (us ++ ts) a)))
  plain_operand (once {k = k} {a = low} {b = high} {a_in} {b_in} {ts = ts} {us = us} {ns = ns} w p) a =
      with_one ns (Once (top k ns) low high a_in b_in) tt
      (plain_operand p (all_right IsPlainToken us ts (All-tail IsPlainToken (word (codes "once")) (us ++ ts) a)))
  plain_operand (historically {k = k} {a = low} {b = high} {a_in} {b_in} {ts = ts} {us = us} {ns = ns} w p) a =
      with_one ns (Historically (top k ns) low high a_in b_in) tt
      (plain_operand p (all_right IsPlainToken us ts (All-tail IsPlainToken (word (codes "historically")) (us ++ ts) a)))
  plain_operand always_true a = All-cons IsPlainNode (Const true) [] tt (All-nil IsPlainNode)
  plain_operand always_false a = All-cons IsPlainNode (Const false) [] tt (All-nil IsPlainNode)
  plain_operand (parens {ts = ts} f) a =
      plain_formula f (all_left IsPlainToken ts (close_paren ∷ []) (All-tail IsPlainToken open_paren (ts ++ close_paren ∷ []) a))
  plain_operand (atom {a = c} is) a = All-cons IsPlainNode (Leaf c) [] (plain_atom is a) (All-nil IsPlainNode)

-- a formula that was read has no LF in its names
pub read_names : (text : List ℕ) (f : Formula) → IsFormulaOf text f → HasPlainNames f
read_names text f is i j owner part at within =
    let nodes = plain_formula is.read.parsed (plain_tokens is.read.lexed) in
    let leaf : All IsPlainTerm owner.terms = All-get IsPlainNode f.nodes i (Leaf owner) nodes at in
    All-get IsPlainTerm owner.terms j part leaf within

-- ---- tags

-- what lines give has tags
pub have_tags : {all : List Line} {tagged : List Tagged} → AreTagged all tagged → HaveTags tagged
have_tags none_tagged = tt
have_tags (unfinished w) = tt
have_tags (blank_line w b more) = have_tags more
have_tags (next {line = l} {x = x} w b is more) = (tag_is _ x is, have_tags more)

-- a tag of them is one
pub is_a_tag : (t : List ℕ) (known : List (List ℕ)) (all : List Tagged) → HaveTags all → is_among t (tags_after known all) ≡ true → IsTag t
is_a_tag t known [] h a = absurd (false≢true a)
is_a_tag t known (x ∷ all) h a = by_known (is_among x.tag known) (λ b. is_a_tag t known all h.1 b) (λ b. is_a_tag t (x.tag ∷ known) all h.1 b) a
  where
    by_known : (k : Bool) → (is_among t (tags_after known all) ≡ true → IsTag t) → (is_among t (tags_after (x.tag ∷ known) all) ≡ true → IsTag t)
        → is_among t (cond k (tags_after known all) (x.tag ∷ tags_after (x.tag ∷ known) all)) ≡ true → IsTag t
    by_known true same more b = same b
    by_known false same more b = by_tag (bytes_eq t x.tag) refl b
      where
        by_tag : (e : Bool) → bytes_eq t x.tag ≡ e → (e || is_among t (tags_after (x.tag ∷ known) all)) ≡ true → IsTag t
        by_tag true e c = subst IsTag (sym ((bytes_eq-Decides t x.tag).0 e)) h.0
        by_tag false e c = more c

-- ---- what a bench hears

-- the text is that of the lines, to their ends
text_of_lines : (f : Formula) (bytes text : List ℕ) (status : ℕ) → IsAnswered (sessions f) bytes true status text
    → (seen : List Tagged) → AreTagged (lines true bytes) seen → MuxText f seen true text
text_of_lines f bytes text status (ended, zero_is, owed, calm) seen are = by_lines owed.before owed.is
  where
    by_lines : {tagged : List Tagged} {whole : Bool} → AreLinesBefore bytes true tagged whole → MuxText f tagged whole text → MuxText f seen true text
    by_lines {tagged} (sound quiet all_are) m = subst (λ ts. MuxText f ts true text) (tagged_lines_once (lines true bytes) tagged seen all_are are) m
    by_lines (faulted x fault all_are) m = absurd (calm x fault)

-- each bench hears the stream of its own lines
pub hears_own_stream : (formula : List ℕ) (f : Formula) (bytes text : List ℕ) (status : ℕ) → IsFormulaOf formula f
    → IsAnswered (sessions f) bytes true status text
    → (seen : List Tagged) → AreTagged (lines true bytes) seen → (t : List ℕ) → is_among t (tags_after [] seen) ≡ true
    → (said : List ℕ) × Alone f (own seen t) true said × (heard t text ≡ texts said)
hears_own_stream formula f bytes text status read answered seen are t among =
    let m = text_of_lines f bytes text status answered seen are in
    let tags = have_tags are in
    let (said, in_all, alone) = as_alone_to_its_end f t seen text among m in
    (said, alone, hears_its_end f t seen text said (read_names formula f read) (is_a_tag t [] seen tags among) tags in_all)

-- the bytes of several sessions were answered with this text, and the tag is one of theirs
pub record IsServed (f : Formula) (bytes text t : List ℕ) : Type 0 where
  -- the status
  pub status : ℕ
  -- of the answer
  pub answered : IsAnswered (sessions f) bytes true status text
  -- the lines with their tags
  pub seen : List Tagged
  -- are those of the bytes
  pub are : AreTagged (lines true bytes) seen
  -- the tag is among them
  pub among : is_among t (tags_after [] seen) ≡ true

-- so two inputs with the same lines of a tag tell its bench the same
pub hears_the_same : {formula : List ℕ} {f : Formula} {bytes other text said t : List ℕ} → IsFormulaOf formula f → (x : IsServed f bytes text t)
    → (y : IsServed f other said t) → lines_of t x.seen ≡ lines_of t y.seen → heard t text ≡ heard t said
hears_the_same {formula} {f} {bytes} {other} {text} {said} {t} read x y same =
    let (mine, alone, mine_is) = hears_own_stream formula f bytes text x.status read x.answered x.seen x.are t x.among in
    let (theirs, apart, theirs_is) = hears_own_stream formula f other said y.status read y.answered y.seen y.are t y.among in
    let bytes_are : own y.seen t ≡ own x.seen t = own_of_lines y.seen t ∙ ap (λ l. own l t) (sym same) ∙ sym (own_of_lines x.seen t) in
    mine_is ∙ ap texts (text_alone_once f (own x.seen t) true mine theirs alone (subst (λ w. Alone f w true theirs) bytes_are apart)) ∙ sym theirs_is
