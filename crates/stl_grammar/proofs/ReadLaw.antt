-- The reading of a text, token by token.
use Rattle.std.proofs.Common.{◌≡◌, ℕ, suc, ◌+◌, ◌-◌, ◌<◌, ◌≤◌, List, [], ◌∷◌, ◌++◌, length, drop, get_or, reverse}
use Rattle.std.proofs.Common.{map, refl, sym, ap, ◌∙◌, subst, true, false, arith, inl, inr, append_assoc}
use Rattle.std.specs.Prelude.{Some, None}
use Rattle.std.proofs.lemmas.List.{drop_more, drop-drop, drop_at, length-append, length-drop, drop_all, append-nil, reverse-append, map-append}
use Rattle.stl_syntax.specs.Characters.{is_blank}
use Rattle.stl_grammar.specs.Tokens.{Token, IsToken, a_word}
use Rattle.stl_grammar.specs.Tokens.{Lexes, nothing, token, blank as skip}
use Rattle.stl_grammar.specs.FormulaRefusals.{TokenFault, blank, bad_byte, here, later, at_end, BeginsNoToken, MayEnd, RefusedAt, expected}
use Rattle.stl_grammar.specs.Parsing.{Parse}
use Rattle.stl_grammar.specs.Refusing.{refused, expected_in, is_whole_in}
use Rattle.stl_syntax.specs.declared.scale.Scale.{Scale}
use Rattle.stl_grammar.specs.Machine.{run, ends_at, ranks}
use Rattle.stl_grammar.specs.States.{place_in, frames_in, state_in}
use Rattle.stl_grammar.specs.Taken.{plain, empty_parse}
use Rattle.stl_grammar.proofs.ParserStates.{ranks_same}
use Rattle.stl_grammar.specs.ReadText.{Advances, Refuses, Stops, IsRead}
use Rattle.stl_grammar.proofs.RefusingLaw.{no_digits, refused_rightly, taken, IsTaken, expected_same}
use Rattle.stl_grammar.proofs.MachineBegins.{run_ends}
use Rattle.stl_grammar.proofs.MachineRuns.{run_goes_on}
use Rattle.stl_grammar.proofs.MachineView.{run_expected}
use Rattle.stl_grammar.proofs.RefusalLaw.{token-unique, no_token_at_blank, no_token_at_end}
use Rattle.stl_grammar.specs.declared.token.Token.{Token as Code}
use Rattle.stl_grammar.specs.declared.fault.FormulaFault.{FormulaFault}
use Rattle.stl_grammar.specs.declared.fault.FormulaFault.TheVariants.{Expected, BadByte}

-- the text was read up to place `at`
pub record HasRead (text : List ℕ) (at : ℕ) (p : Parse) (codes : List Code) : Type 0 where
  -- the tokens so far, the last one first
  pub before : List Token
  -- the parser is in the machine's state after them, at each scale
  pub runs : (s : Scale) → run s before ≡ Some (state_in s p)
  -- there are 256 nodes at most
  pub few : p.made ≤ 256
  -- the place is in the text
  pub within : at ≤ length text
  -- the code's tokens are those
  pub spelled : reverse before ≡ map (plain text) codes
  -- a refusal from here is one of the text
  pub fault : (r : FormulaFault) → TokenFault before at (drop at text) r → TokenFault [] 0 text r
  -- and the other way round
  pub back : (r : FormulaFault) → TokenFault [] 0 text r → TokenFault before at (drop at text) r
  -- tokens from here make those of the text
  pub lexed : (ts : List Token) → Lexes (drop at text) ts → Lexes text (reverse before ++ ts)

-- at the start nothing was read
pub read_nothing : (text : List ℕ) → HasRead text 0 empty_parse []
read_nothing text = record {
  before = [];
  runs = λ s. refl;
  few = omega arith;
  within = omega arith;
  spelled = refl;
  fault = λ r h. h;
  back = λ r h. h;
  lexed = λ ts h. h;
}

-- the refusal after a blank, and after a token
after_blank : {before : List Token} {p c : ℕ} {text : List ℕ} {r : FormulaFault} → is_blank c ≡ true
    → TokenFault before p (c ∷ text) r → TokenFault before (suc p) text r
after_blank b (blank b' h) = h
after_blank b (bad_byte c n) = absurd (cc)
after_blank {c = c} {text} b (here t bytes rest e k x) = absurd (no_token_at_blank c text bytes rest t b e k)
after_blank {c = c} {text} b (later t bytes rest e k x y) = absurd (no_token_at_blank c text bytes rest t b e k)

after_token : {before : List Token} {p : ℕ} {whole : List ℕ} {r : FormulaFault} (t : Token) (bytes text : List ℕ) → whole ≡ bytes ++ text → IsToken bytes text t
    → ((x : FormulaFault) → ¬ RefusedAt before t text p x) → TokenFault before p whole r → TokenFault (t ∷ before) (p + length bytes) text r
after_token t bytes text e k f (blank {c = c} {text = rest} b h) = absurd (no_token_at_blank c rest bytes text t b e k)
after_token t bytes text e k f (bad_byte c n) = absurd (n bytes text t e k)
after_token {before} {p} {whole} {r} t bytes text e k f (here t' bytes' rest' e' k' x) =
    let u = token-unique whole bytes bytes' text rest' t t' e k e' k' in absurd (f r (rw (u.0, u.1) x))
after_token {before} {p} {whole} {r} t bytes text e k f (later t' bytes' rest' e' k' y z) =
    let u = token-unique whole bytes bytes' text rest' t t' e k e' k' in rw (u.0, u.1, u.2) z
after_token t bytes text e k f (at_end n) = absurd (no_token_at_end bytes text t e k)

none_at_end : {before : List Token} {p : ℕ} {r : FormulaFault} → MayEnd before → ¬ TokenFault before p [] r
none_at_end m (here t bytes rest e k x) = no_token_at_end bytes rest t e k
none_at_end m (later t bytes rest e k x y) = no_token_at_end bytes rest t e k
none_at_end m (at_end n) = n m

-- a token has some bytes
some_bytes : {bytes text : List ℕ} {t : Token} → IsToken bytes text t → 0 < length bytes
some_bytes (a_word b m s) = omega arith
some_bytes _ = omega arith

-- reading goes on
pub advances_some : (text : List ℕ) (at to : ℕ) (p q : Parse) (codes others : List Code) → Advances text at to p q codes others → at < to
advances_some text at to p q codes others f = omega (arith, f.place, f.lexeme.size, some_bytes f.lexeme.reads)

add_blank : {before : List Token} {p q c : ℕ} {text : List ℕ} {r : FormulaFault} → is_blank c ≡ true → suc p ≡ q
    → TokenFault before q text r → TokenFault before p (c ∷ text) r
add_blank {before} {p} {q} {c} {text} {r} b e f = blank {before = before} {p = p} {c = c} {text = text} {r = r} b (rw e f)

moved_fault : {before : List Token} {a b : ℕ} {xs ys : List ℕ} {r : FormulaFault} → a ≡ b → ys ≡ xs → TokenFault before a ys r → TokenFault before b xs r
moved_fault {before} {a} {b} {xs} {ys} {r} e f g = subst (λ n. TokenFault before n xs r) e (subst (λ zs. TokenFault before a zs r) f g)

ends_same : (p : Parse) → ends_at (place_in p.place) (ranks (frames_in no_digits p.frames)) ≡ is_whole_in p
ends_same p = ap (λ z. ends_at (place_in p.place) z) (ranks_same no_digits p.frames)

module _ (text : List ℕ) (at : ℕ) (p : Parse) (codes : List Code) (h : HasRead text at p codes) where
  first : at < length text → drop at text ≡ get_or text at 0 ∷ drop (at + 1) text
  first l = drop_more text at 0 l

  -- past a blank
  pub read_blank : at < length text → is_blank (get_or text at 0) ≡ true → HasRead text (at + 1) p codes
  read_blank l b =
      let next : suc at ≡ at + 1 = omega arith in
      record {
        before = h.before;
        runs = h.runs;
        few = h.few;
        within = omega arith;
        spelled = h.spelled;
        fault = λ r f. h.fault r (moved_fault refl (sym (first l)) (add_blank b next f));
        back = λ r f. moved_fault next refl (after_blank b (moved_fault refl (first l) (h.back r f)));
        lexed = λ ts f. h.lexed ts (subst (λ xs. Lexes xs ts) (sym (first l)) (skip b f));
      }

  -- where no token begins, a byte is refused
  pub read_no_token : at < length text → is_blank (get_or text at 0) ≡ false → BeginsNoToken (drop at text) → TokenFault [] 0 text (BadByte at)
  read_no_token l b n = h.fault (BadByte at) (moved_fault refl (sym (first l)) (bad_byte b (subst BeginsNoToken (first l) n)))

  rest_after : (bytes after : List ℕ) (n : ℕ) → drop at text ≡ bytes ++ after → length bytes ≡ n → drop (at + n) text ≡ after
  rest_after bytes after n e s = sym (drop-drop n at text) ∙ (ap (drop n) e ∙ drop_at bytes after n s)

  -- what refuses a token refuses the text
  pub read_refused : (r : FormulaFault) → Refuses text at p r → TokenFault [] 0 text r
  read_refused r f =
      let x = f.lexeme in
      let rest : drop (at + f.len) text ≡ x.after = rest_after x.bytes x.after f.len x.splits x.size in
      let e : refused text p f.code x.after at ≡ Some r = rw rest at f.refused in
      h.fault r (here x.token x.bytes x.after x.splits x.reads (refused_rightly text x.after h.before p f.code x.token at h.runs x.spells r e))

  -- so where the parser stops
  pub read_stops : (r : FormulaFault) → at < length text → is_blank (get_or text at 0) ≡ false → Stops text at p r → TokenFault [] 0 text r
  read_stops r l b (inl (n, e)) = rw e (read_no_token l b n)
  read_stops r l b (inr f) = read_refused r f

  -- past a token
  pub read_token : (to : ℕ) (q : Parse) (others : List Code) → Advances text at to p q codes others → HasRead text to q others
  read_token to q others f =
      let x = f.lexeme in
      let rest : drop (at + f.len) text ≡ x.after = rest_after x.bytes x.after f.len x.splits x.size in
      let e : refused text p f.code x.after at ≡ None = rw rest at f.free in
      let k : IsTaken text x.after h.before p f.code x.token at h.runs x.spells q =
      taken text x.after h.before p f.code x.token at h.runs x.spells q e f.step in
      let end : at + length x.bytes ≡ to = ap (λ n. at + n) x.size ∙ sym f.place in
      let after : drop to text ≡ x.after = ap (λ n. drop n text) f.place ∙ rest in
      let long : length text - at ≡ length x.bytes + length x.after = sym (length-drop at text) ∙ (ap length x.splits ∙ length-append x.bytes x.after) in
      record {
        before = x.token ∷ h.before;
        runs = k.next;
        few = k.few;
        within = within_text at (length text) (length x.bytes) (length x.after) to h.within long end;
        spelled = spelled_more k.exact;
        fault = λ r g. h.fault r (later x.token x.bytes x.after x.splits x.reads k.free (moved_fault (sym end) after g));
        back = λ r g. moved_fault end (sym after) (after_token x.token x.bytes x.after x.splits x.reads k.free (h.back r g));
        lexed = λ ts g. lexed_more ts (h.lexed (x.token ∷ ts) (token x.bytes x.after x.splits x.reads (rw after at g)));
      }
    where
      within_text : (a l b c to : ℕ) → a ≤ l → l - a ≡ b + c → a + b ≡ to → to ≤ l
      within_text a l b c to i j k = omega (arith, i, j, k)

      spelled_more : f.lexeme.token ≡ plain text f.code → reverse (f.lexeme.token ∷ h.before) ≡ map (plain text) others
      spelled_more e =
          reverse-append (f.lexeme.token ∷ []) h.before ∙ (ap (λ xs. xs ++ f.lexeme.token ∷ []) h.spelled ∙ (ap (λ t. map (plain text) codes ++ t ∷ []) e
          ∙ (sym (map-append (plain text) codes (f.code ∷ [])) ∙ ap (map (plain text)) (sym f.tokens))))

      lexed_more : (ts : List Token) → Lexes text (reverse h.before ++ f.lexeme.token ∷ ts) → Lexes text (reverse (f.lexeme.token ∷ h.before) ++ ts)
      lexed_more ts g =
          subst (λ xs. Lexes text xs)
          (sym (append_assoc (reverse h.before) (f.lexeme.token ∷ []) ts) ∙ ap (λ xs. xs ++ ts) (sym (reverse-append (f.lexeme.token ∷ []) h.before))) g

  -- at the end
  pub read_all : length text ≤ at → is_whole_in p ≡ true → IsRead text p codes
  read_all l e =
      let none_left : drop at text ≡ [] = drop_all at text l in
      let ended : MayEnd h.before = run_ends no_digits h.before (state_in no_digits p) (h.runs no_digits) (ends_same p ∙ e) in
      record {
        before = h.before;
        reads = h.runs;
        spelled = h.spelled;
        lexed = subst (λ xs. Lexes text xs) (append-nil (reverse h.before)) (h.lexed [] (rw none_left nothing));
        ended = ended;
        free = λ r f. none_at_end ended (rw none_left at (h.back r f));
      }

  -- a text that ends too early lacks what is expected
  pub read_part : length text ≤ at → is_whole_in p ≡ false
      → TokenFault [] 0 text (Expected (length text) (expected_in p))
  read_part l e =
      let none_left : drop at text ≡ [] = drop_all at text l in
      let place : at ≡ length text = omega (arith, h.within) in
      let what : expected h.before ≡ expected_in p = run_expected no_digits h.before (state_in no_digits p) (h.runs no_digits) ∙ expected_same p in
      let f : TokenFault h.before at [] (Expected at (expected h.before)) =
      at_end (run_goes_on no_digits h.before (state_in no_digits p) (h.runs no_digits) (ends_same p ∙ e)) in
      h.fault (Expected (length text) (expected_in p)) (rw (none_left, ← what, ← place) f)
