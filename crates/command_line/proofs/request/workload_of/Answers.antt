use Rattle.std.proofs.Common.{◌≡◌, ◌≤◌, List, [], ◌∷◌, length, map, get_or, sym, ◌∙◌, arith, subst}
use Rattle.std.specs.Prelude.{string_bytes, codes}
use Rattle.std.proofs.lemmas.Bool.{false≢true}
use Rattle.std.proofs.lemmas.Slice.Eq.{bytes_eq-Decides}
use Rattle.command_line.proofs.NumberWords.{workload_words, words_of_workload}
use Rattle.command_line.proofs.request.workload_of.Goals as goal

-- a list of three
three : {A : Type 0} (xs : List A) (a b c : A) → length xs ≡ 3 → a ≡ get_or xs 0 a → b ≡ get_or xs 1 b → c ≡ get_or xs 2 c → xs ≡ a ∷ b ∷ c ∷ []
three [] a b c n p q r = absurd (omega arith)
three (x ∷ []) a b c n p q r = absurd (omega arith)
three (x ∷ y ∷ []) a b c n p q r = absurd (omega arith)
three (x ∷ y ∷ z ∷ []) a b c n p q r = let e : a ≡ x = p in let f : b ≡ y = q in let g : c ≡ z = r in cc
three (x ∷ y ∷ z ∷ w ∷ more) a b c n p q r = absurd (omega arith)

pub returns-else-rows-eq0 : goal.returns-else-rows-eq0
returns-else-rows-eq0 c =
    let n : length c.args.words.now ≡ 3 = omega arith in
    let e = three c.args.words.now c.form-item.result c.number-item.result c.rows-item.result n c.form-item.is c.number-item.is c.rows-item.is in
    let gen : c.as_str.result.now ≡ codes "gen" = (bytes_eq-Decides c.as_str.result.now (codes "gen")).0 (sym c.eq.ensures ∙ c.if-eq.true) in
    let some : 1 ≤ c.in_ok-rows-in-len3.rows = omega arith in
    let rows_are = c.in_ok-rows-in-len3.ensures in
    let few = rows_are.small in (
      record {
        built = tt;
        is = workload_words c.as_bytes.result.now c.as_bytes-in-len3.result.now c.in_ok-number-in-len3.number c.in_ok-rows-in-len3.rows
            (rw e (let f = c.as_str.ensures.value in let g = c.as_bytes.ensures.value in let h = c.as_bytes-in-len3.ensures.value in cc))
            c.in_ok-number-in-len3.ensures rows_are some;
      },
      some,
      few,
    )

pub returns-in_default-2 : goal.returns-in_default-2
returns-in_default-2 c = λ number rows a.
    let n : length c.args.words.now ≡ 3 = omega arith in
    let e = three c.args.words.now c.form-item.result c.number-item.result c.rows-item.result n c.form-item.is c.number-item.is c.rows-item.is in
    let w = words_of_workload a.is in
    let same = subst (λ ws. map string_bytes ws ≡ codes "gen" ∷ w.first ∷ w.second ∷ []) e w.are in
    let gen : c.as_str.result.now ≡ codes "gen" = (let f = c.as_str.ensures.value in cc) in
    false≢true (sym c.if-eq.false ∙ c.eq.ensures ∙ (bytes_eq-Decides c.as_str.result.now (codes "gen")).1 gen)
