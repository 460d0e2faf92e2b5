-- What a word is, and the lists of words that hold it.
use Rattle.std.proofs.Common.{◌≡◌, ℕ, List, [], ◌∷◌, refl, ap, sym, ◌∙◌, Bool, true, false, ◌&&◌, inl, inr, ◌⊎◌}
use Rattle.std.specs.Prelude.{codes, bytes_eq, not}
use Rattle.std.proofs.lemmas.Bool.{or_parts, and_parts}
use Rattle.std.proofs.lemmas.Slice.Eq.{bytes_eq-Decides}
use Rattle.stl_syntax.specs.Characters.{is_among}
use Rattle.stl_syntax.specs.Names.{reserved}
use Rattle.stl_grammar.specs.FormulaRefusals.{constants, prefixes, ahead}
use Rattle.stl_grammar.specs.Spelling.{spelling}
use Rattle.stl_grammar.specs.Operators.{Connective, by_and, by_or, by_implies, connective_word, constant_word, is_beside, looks_back, timed_word}
use Rattle.stl_grammar.specs.Operators.{Timed, TUntil, TSince, TEventually, TAlways, TOnce, THistorically}
use Rattle.stl_grammar.specs.Machine.{Kind, kind, a_constant, a_negation, a_connective, a_timed, an_inf, a_name}
use Rattle.stl_grammar.specs.declared.token.Keyword.{Keyword}
use Rattle.stl_grammar.specs.declared.token.Keyword.TheVariants.{Constant, Not, Connective as Joins, Timed as Bounded, Inf}

-- the word is one of the words
abbrev pub OneOf : List ℕ → List (List ℕ) → Type 0
OneOf w [] = ⊥
OneOf w (v ∷ words) = (w ≡ v) ⊎ OneOf w words

among_one : (w : List ℕ) (words : List (List ℕ)) → is_among w words ≡ true → OneOf w words
among_one w [] h = cc
among_one w (v ∷ words) h = split (bytes_eq w v) refl (λ k. among_one w words k)
  where
    split : (b : Bool) → bytes_eq w v ≡ b → (is_among w words ≡ true → OneOf w words) → OneOf w (v ∷ words)
    split true e f = inl ((bytes_eq-Decides w v).0 e)
    split false e f = inr (f (rw e at h))

-- what holds of each word of the grammar, and of each name, holds of every word
pub by_words : (P : List ℕ → Type 0) → ((k : Keyword) → P (spelling k)) → ((w : List ℕ) → is_among w reserved ≡ false → P w) → (w : List ℕ) → P w
by_words P word name w = split (is_among w reserved) refl
  where
    one : OneOf w reserved → P w
    one (inl h) = rw h (word (Constant true))
    one (inr (inl h)) = rw h (word (Constant false))
    one (inr (inr (inl h))) = rw h (word Not)
    one (inr (inr (inr (inl h)))) = rw h (word (Joins by_and))
    one (inr (inr (inr (inr (inl h))))) = rw h (word (Joins by_or))
    one (inr (inr (inr (inr (inr (inl h)))))) = rw h (word (Joins by_implies))
    one (inr (inr (inr (inr (inr (inr (inl h))))))) = rw h (word (Bounded TUntil))
    one (inr (inr (inr (inr (inr (inr (inr (inl h)))))))) = rw h (word (Bounded TSince))
    one (inr (inr (inr (inr (inr (inr (inr (inr (inl h))))))))) = rw h (word (Bounded TEventually))
    one (inr (inr (inr (inr (inr (inr (inr (inr (inr (inl h)))))))))) = rw h (word (Bounded TAlways))
    one (inr (inr (inr (inr (inr (inr (inr (inr (inr (inr (inl h))))))))))) = rw h (word (Bounded TOnce))
    one (inr (inr (inr (inr (inr (inr (inr (inr (inr (inr (inr (inl h)))))))))))) = rw h (word (Bounded THistorically))
    one (inr (inr (inr (inr (inr (inr (inr (inr (inr (inr (inr (inr (inl h))))))))))))) = rw h (word Inf)
    one (inr (inr (inr (inr (inr (inr (inr (inr (inr (inr (inr (inr (inr h))))))))))))) = absurd h

    split : (b : Bool) → is_among w reserved ≡ b → P w
    split true h = one (among_one w reserved h)
    split false h = name w h

-- the word is none of the words
abbrev NoneOf : List ℕ → List (List ℕ) → Type 0
NoneOf w [] = Unit {0}
NoneOf w (v ∷ words) = (bytes_eq w v ≡ false) × NoneOf w words

among_none : (w : List ℕ) (words : List (List ℕ)) → is_among w words ≡ false → NoneOf w words
among_none w [] h = tt
among_none w (v ∷ words) h = let p = or_parts (bytes_eq w v) (is_among w words) h in (p.0, among_none w words p.1)

-- a word that is none of the grammar's is a name
pub name_kind : (w : List ℕ) → is_among w reserved ≡ false → kind w ≡ a_name
unfolding kind
name_kind w h =
    let (t, (f, (n, (a, (o, (i, (u, (s, (e, (l, (c, (y, (x, z))))))))))))) = among_none w reserved h in
    rw (t, f, n, a, o, i, u, s, e, l, c, y, x) refl

-- the words of the table are of their kind: those of operators with a bound
pub timed_kind : (of : Timed) → kind (timed_word of) ≡ a_timed of
unfolding kind
timed_kind TUntil = refl
timed_kind _ = refl

-- those of connectives
pub connective_kind : (o : Connective) → kind (connective_word o) ≡ a_connective o
unfolding kind
connective_kind by_and = refl
connective_kind _ = refl

-- and those of constants
pub constant_kind : (b : Bool) → kind (constant_word b) ≡ a_constant b
unfolding kind
constant_kind true = refl
constant_kind false = refl

-- the lists of words by the kind
abbrev pub ends_operand : Kind → Bool
ends_operand (a_constant b) = true
ends_operand _ = false

abbrev pub has_operand : Kind → Bool
has_operand a_negation = true
has_operand (a_timed of) = not (is_beside of)
has_operand _ = false

abbrev pub is_implication : Kind → Bool
is_implication (a_connective by_implies) = true
is_implication _ = false

abbrev pub is_inf : Kind → Bool
is_inf an_inf = true
is_inf _ = false

abbrev pub is_until : Kind → Bool
is_until (a_timed TUntil) = true
is_until _ = false

abbrev pub looks_ahead : Kind → Bool
looks_ahead (a_timed of) = not (looks_back of)
looks_ahead _ = false

abbrev pub is_word : Kind → Bool
is_word a_name = false
is_word _ = true

-- all are words of the grammar
abbrev are_words : List (List ℕ) → Bool
are_words [] = true
are_words (v ∷ words) = is_among v reserved && are_words words

-- a name is none of them
name_among : (w : List ℕ) → is_among w reserved ≡ false → (words : List (List ℕ)) → are_words words ≡ true → is_among w words ≡ false
name_among w h [] e = refl
name_among w h (v ∷ words) e =
    let p = and_parts (is_among v reserved) (are_words words) e in split (bytes_eq w v) refl p.0 (name_among w h words p.1)
  where
    split : (b : Bool) → bytes_eq w v ≡ b → is_among v reserved ≡ true → is_among w words ≡ false → is_among w (v ∷ words) ≡ false
    split true f x y = let g : w ≡ v = (bytes_eq-Decides w v).0 f in let z = rw g at h in absurd (cc)
    split false f x y = rw (f, y) refl

-- words that are in the list where the test of their kind says so
among : (words : List (List ℕ)) (q : Kind → Bool) → ((k : Keyword) → is_among (spelling k) words ≡ q (kind (spelling k)))
    → are_words words ≡ true → q a_name ≡ false → (w : List ℕ) → is_among w words ≡ q (kind w)
among words q word e f = by_words (λ w. is_among w words ≡ q (kind w)) word (λ w h. name_among w h words e ∙ sym (ap q (name_kind w h) ∙ f))

-- the words that end an operand
pub among_constants : (w : List ℕ) → is_among w constants ≡ ends_operand (kind w)
unfolding kind
among_constants = among constants ends_operand word refl refl
  where
    word : (k : Keyword) → is_among (spelling k) constants ≡ ends_operand (kind (spelling k))
    word (Constant true) = refl
    word (Joins by_and) = refl
    word (Bounded TUntil) = refl
    word _ = refl

-- the words before an operand
pub among_prefixes : (w : List ℕ) → is_among w prefixes ≡ has_operand (kind w)
unfolding kind
among_prefixes = among prefixes has_operand word refl refl
  where
    word : (k : Keyword) → is_among (spelling k) prefixes ≡ has_operand (kind (spelling k))
    word (Constant true) = refl
    word (Joins by_and) = refl
    word (Bounded TUntil) = refl
    word _ = refl

-- the word `implies`
pub among_implies : (w : List ℕ) → is_among w (codes "implies" ∷ []) ≡ is_implication (kind w)
unfolding kind
among_implies = among (codes "implies" ∷ []) is_implication word refl refl
  where
    word : (k : Keyword) → is_among (spelling k) (codes "implies" ∷ []) ≡ is_implication (kind (spelling k))
    word (Constant true) = refl
    word (Joins by_and) = refl
    word (Bounded TUntil) = refl
    word _ = refl

-- the word `inf`
pub among_inf : (w : List ℕ) → is_among w (codes "inf" ∷ []) ≡ is_inf (kind w)
unfolding kind
among_inf = among (codes "inf" ∷ []) is_inf word refl refl
  where
    word : (k : Keyword) → is_among (spelling k) (codes "inf" ∷ []) ≡ is_inf (kind (spelling k))
    word (Constant true) = refl
    word (Joins by_and) = refl
    word (Bounded TUntil) = refl
    word _ = refl

-- the word `until`
pub among_until : (w : List ℕ) → is_among w (codes "until" ∷ []) ≡ is_until (kind w)
unfolding kind
among_until = among (codes "until" ∷ []) is_until word refl refl
  where
    word : (k : Keyword) → is_among (spelling k) (codes "until" ∷ []) ≡ is_until (kind (spelling k))
    word (Constant true) = refl
    word (Joins by_and) = refl
    word (Bounded TUntil) = refl
    word _ = refl

-- the words that look ahead
pub among_ahead : (w : List ℕ) → is_among w ahead ≡ looks_ahead (kind w)
unfolding kind
among_ahead = among ahead looks_ahead word refl refl
  where
    word : (k : Keyword) → is_among (spelling k) ahead ≡ looks_ahead (kind (spelling k))
    word (Constant true) = refl
    word (Joins by_and) = refl
    word (Bounded TUntil) = refl
    word _ = refl

-- all words of the grammar
pub among_reserved : (w : List ℕ) → is_among w reserved ≡ is_word (kind w)
unfolding kind
among_reserved = among reserved is_word word refl refl
  where
    word : (k : Keyword) → is_among (spelling k) reserved ≡ is_word (kind (spelling k))
    word (Constant true) = refl
    word (Joins by_and) = refl
    word (Bounded TUntil) = refl
    word _ = refl

-- the words of each kind
abbrev pub OfKind : Kind → List ℕ → Type 0
OfKind (a_constant b) w = w ≡ constant_word b
OfKind a_negation w = w ≡ codes "not"
OfKind (a_connective o) w = w ≡ connective_word o
OfKind (a_timed of) w = w ≡ timed_word of
OfKind an_inf w = w ≡ codes "inf"
OfKind a_name w = is_among w reserved ≡ false

-- a word is one of its kind
pub kind_of : (w : List ℕ) → OfKind (kind w) w
unfolding kind
kind_of = by_words (λ w. OfKind (kind w) w) word (λ w g. rw (name_kind w g) g)
  where
    word : (k : Keyword) → OfKind (kind (spelling k)) (spelling k)
    word (Constant true) = refl
    word (Joins by_and) = refl
    word (Bounded TUntil) = refl
    word _ = refl
