-- The words in the bytes of a day, and its parts in the words that were filled in.
use Rattle.std.proofs.Common.{◌≡◌, ℕ, zero, suc, ◌+◌, ◌-◌, ◌*◌, ◌/◌, ◌<◌, ◌≤◌, min, Bool, true, false, ltb, leb, List, [], ◌∷◌, length, get_or, take, drop, Some, None, Ok, Err, Result, sym, refl, ap, ◌∙◌, inl, inr, arith, length-drop, length-take}
use Rattle.std.proofs.lemmas.List.FromFn.{get_or-map-range_with_len, length-map-range_with_len}
use Rattle.std.proofs.lemmas.List.{take-take, take_all, get_or-take, get_or-drop, drop-take, drop-drop}
use Rattle.std.proofs.lemmas.Bool.{lt-ltb, le-ltb, ltb-true, ltb-false, leb-true, cases_Bool, cases_lt, or_right, or_from}
use Rattle.std.proofs.lemmas.Bool.Decides.{nat_tests}
use Rattle.std.specs.Int.{from_be_bytes, w32}
use Rattle.std.specs.Option.{ok_or}
use Rattle.std.specs.Simd.{first_chunks}
use Rattle.sheets.specs.declared.fault.Fault.{Fault}
use Rattle.sheets.specs.declared.fault.Refusal.TheVariants.{Ragged}
use Rattle.sheets.specs.Faults.{fault}
use Rattle.days.specs.Input.{Day, word_at, words_of, broken, parts, day_of, bytes_behind}

-- the four bytes of a word
four : (k p : ℕ) (bs d : List ℕ) → p < k → get_or (first_chunks 4 k bs) p d ≡ take 4 (drop (4 * p) bs)
four zero p bs d h = absurd (omega arith)
four (suc k) zero bs d h = refl
four (suc k) (suc p) bs d h = let on : 4 + 4 * p ≡ 4 * suc p = omega arith in four k p (drop 4 bs) d (omega arith) ∙ ap (take 4) (drop-drop (4 * p) 4 bs ∙ ap (λ (n : ℕ). drop n bs) on)

-- the word that they say
pub word_in_four : (bs : List ℕ) (fours : List (List ℕ)) (k p : ℕ) (d : List ℕ) → fours ≡ first_chunks 4 k bs → p < k → from_be_bytes w32 (get_or fours p d) ≡ word_at bs p
word_in_four bs fours k p d is h =
    ap (from_be_bytes w32) (ap (λ (v : List (List ℕ)). get_or v p d) is ∙ four k p bs d h)
    ∙ (λ i. byte 0 (4 * p) (omega arith) (omega arith) i * 16777216 + byte 1 (4 * p + 1) (omega arith) refl i * 65536 + byte 2 (4 * p + 2) (omega arith) refl i * 256 + byte 3 (4 * p + 3) (omega arith) refl i)
  where
    byte : (i n : ℕ) → i < 4 → 4 * p + i ≡ n → get_or (take 4 (drop (4 * p) bs)) i 0 ≡ get_or bs n 0
    byte i n h e = get_or-take 4 (drop (4 * p) bs) i 0 h ∙ get_or-drop (4 * p) bs i 0 ∙ ap (λ (k : ℕ). get_or bs k 0) e

-- the words that were filled in: the first, and those behind it
front_split : (n : ℕ) (ws : List ℕ) → 1 ≤ n → n ≤ length ws → take n ws ≡ get_or ws 0 0 ∷ take (n - 1) (drop 1 ws)
front_split zero ws h l = absurd (omega arith)
front_split (suc n) [] h l = absurd (omega arith)
front_split (suc n) (w ∷ ws) h l = let same : suc n - 1 ≡ n = omega arith in ap (λ k. w ∷ take k ws) (sym same)

-- the words behind the first, where n words were filled in
abbrev pub behind : ℕ → List ℕ → List ℕ
behind n ws = take (n - 1) (drop 1 ws)

-- bytes that are not broken have a first word, and not too many words
pub whole_words : (bs : List ℕ) → broken bs ≡ false → (4 ≤ length bs) × (length bs ≤ 46372)
whole_words bs e = (grind (arith, nat_tests), grind (arith, nat_tests))

-- n words that were filled in from a day's bytes
pub record Filled (bs ws : List ℕ) (n : ℕ) : Type 0 where
  pub whole : broken bs ≡ false
  pub count : n ≡ length bs / 4
  pub words : take n ws ≡ words_of bs
  pub room : n ≤ length ws

module _ (bs ws : List ℕ) (n : ℕ) (d : Filled bs ws n) where
  -- how many book words the first word says
  abbrev m : ℕ
  m = get_or ws 0 0

  -- a day has a first word
  pub some : 1 ≤ n
  some = omega (arith, d.count, (whole_words bs d.whole).0)

  words_split : words_of bs ≡ m ∷ behind n ws
  words_split = sym d.words ∙ front_split n ws some d.room

  behind_length : length (behind n ws) ≡ n - 1
  behind_length = simp (length-take, length-drop) (omega (arith, d.room))

  halves : Bool → Result Day Fault
  halves b = ok_or (elim b [ true ↦ None | false ↦ Some (record { book = take m (behind n ws); slips = drop m (behind n ws) }) ]) (fault Ragged 0)

  parted : day_of bs ≡ halves (ltb (length (behind n ws)) m)
  unfolding halves
  parted = ap (λ b. elim b [ true ↦ Err (fault Ragged 0) | false ↦ ok_or (parts (words_of bs)) (fault Ragged 0) ]) d.whole ∙ ap (λ v. ok_or (parts v) (fault Ragged 0)) words_split

  -- the first word says more than follow: ragged
  pub day_ragged : n - 1 < m → day_of bs ≡ Err (fault Ragged 0)
  unfolding halves
  day_ragged short = parted ∙ ap halves (lt-ltb (length (behind n ws)) m (omega (arith, behind_length)))

  -- else the book and the slips are the parts of the words where they stand
  pub day_whole : m ≤ n - 1 → day_of bs ≡ Ok (record { book = take (1 + m - 1) (drop 1 ws); slips = take (n - (1 + m)) (drop (1 + m) ws) })
  unfolding halves
  day_whole long =
      let same : 1 + m - 1 ≡ m = omega arith in
      let rest : n - 1 ≡ m + (n - (1 + m)) = omega (arith, long, some) in
      let book : take m (behind n ws) ≡ take (1 + m - 1) (drop 1 ws) = take-take m (n - 1) (drop 1 ws) long ∙ ap (λ k. take k (drop 1 ws)) (sym same) in
      let slips : drop m (behind n ws) ≡ take (n - (1 + m)) (drop (1 + m) ws) = ap (λ k. drop m (take k (drop 1 ws))) rest ∙ drop-take m (n - (1 + m)) (drop 1 ws) ∙ ap (take (n - (1 + m))) (drop-drop m 1 ws) in
      parted ∙ ap halves (le-ltb (length (behind n ws)) m (omega (arith, behind_length))) ∙ (λ i. Ok (record { book = book i; slips = slips i }))

-- what is read of an input is enough to know its day
pub broken_ragged : (bs : List ℕ) → broken bs ≡ true → day_of bs ≡ Err (fault Ragged 0)
broken_ragged bs e = ap (λ b. elim b [ true ↦ Err (fault Ragged 0) | false ↦ ok_or (parts (words_of bs)) (fault Ragged 0) ]) e

few_words : (bs : List ℕ) → length bs / 4 - 1 < word_at bs 0 → day_of bs ≡ Err (fault Ragged 0)
few_words bs few =
    elim (cases_Bool (broken bs)) [
      | inl e ↦ broken_ragged bs e
      | inr e ↦
          let n = length bs / 4 in
          let long : length (words_of bs) ≡ n = length-map-range_with_len (word_at bs) 0 n in
          let first : get_or (words_of bs) 0 0 ≡ word_at bs 0 = get_or-map-range_with_len (word_at bs) 0 n 0 0 0 (let four = (whole_words bs e).0 in omega (arith, four)) (omega arith) in
          day_ragged bs (words_of bs) n (record { whole = e; count = refl; words = take_all n (words_of bs) (omega (arith, long)); room = omega (arith, long) }) (omega (arith, first, few))
    ]

word_front : (bs : List ℕ) → word_at (take 4 bs) 0 ≡ word_at bs 0
word_front bs = λ i. get_or-take 4 bs 0 0 (omega arith) i * 16777216 + get_or-take 4 bs 1 0 (omega arith) i * 65536 + get_or-take 4 bs 2 0 (omega arith) i * 256 + get_or-take 4 bs 3 0 (omega arith) i

pub front_enough : (bs : List ℕ) → day_of (take (4 + bytes_behind (take 4 bs)) bs) ≡ day_of bs
front_enough bs =
    let short : length (take 4 bs) ≡ min 4 (length bs) = length-take 4 bs in
    elim (cases_Bool (ltb (length (take 4 bs)) 4)) [
      | inl e ↦ ap day_of (take_all (4 + bytes_behind (take 4 bs)) bs (let l = ltb-true (length (take 4 bs)) 4 e in omega (arith, short, l)))
      | inr e ↦
          let four : 4 ≤ length bs = let l = ltb-false (length (take 4 bs)) 4 e in omega (arith, short, l) in
          elim (cases_Bool (leb 11593 (word_at (take 4 bs) 0))) [
            | inl large ↦
                let none : bytes_behind (take 4 bs) ≡ 0 = ap (λ b. elim b [ true ↦ 0 | false ↦ 46369 ]) (or_right (ltb (length (take 4 bs)) 4) (leb 11593 (word_at (take 4 bs) 0)) large) in
                let many = leb-true 11593 (word_at (take 4 bs) 0) large in
                ap (λ n. day_of (take (4 + n) bs)) none
                ∙ few_words (take 4 bs) (omega (arith, short, four, many))
                ∙ sym (elim (cases_Bool (broken bs)) [
                  | inl b ↦ broken_ragged bs b
                  | inr b ↦ few_words bs (omega (arith, (whole_words bs b).1, many, word_front bs))
                ])
            | inr small ↦
                let all : bytes_behind (take 4 bs) ≡ 46369 = ap (λ b. elim b [ true ↦ 0 | false ↦ 46369 ]) (or_from (ltb (length (take 4 bs)) 4) (leb 11593 (word_at (take 4 bs) 0)) e small) in
                ap (λ n. day_of (take (4 + n) bs)) all
                ∙ elim (cases_lt 46373 (length bs)) [
                  | inl over ↦ broken_ragged (take 46373 bs) (let l = length-take 46373 bs in grind (arith, nat_tests)) ∙ sym (broken_ragged bs (grind (arith, nat_tests)))
                  | inr within ↦ ap day_of (take_all 46373 bs within)
                ]
          ]
    ]

-- the same for the first four bytes as they were read
pub enough_behind : (head : List ℕ) (r : ℕ) → r ≡ bytes_behind head → (input : List ℕ) → take 4 input ≡ head → day_of (take (4 + r) input) ≡ day_of input
enough_behind head r is input e = ap (λ n. day_of (take (4 + n) input)) (is ∙ ap bytes_behind (sym e)) ∙ front_enough input
