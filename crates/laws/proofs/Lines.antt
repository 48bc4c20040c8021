-- Lines and their ends. Bytes without LF are one line's; a line's text is its bytes without the one CR that may stand before
-- its LF; and a file is its lines put together again.
use mathlib.Core.Path.{◌≡◌, refl, sym, ap, ap₂, ◌∙◌}
use mathlib.Core.Bool.{Bool, true, false, ◌&&◌, not, false≢true, cond}
use mathlib.Core.List.{List, [], ◌∷◌, ◌++◌, append_assoc, append-nil}
use Prim.Native.Nat.{ℕ, zero, suc, ◌+◌, ◌-◌, ◌<◌, ◌≤◌}
use native.Mathlib.Omega.{arith}
use native.Mathlib.Decide.{dec_lt}
use borrow.Author.Tests.{eq-eqb, ne_eqb, eqb-true, eqb-false, lt-ltb, le-ltb, ltb-true, leb-true, not-true}
use lib.Dec.{eqb, ltb, leb}
use lib.ListN.{length, get_or, take, length-append, take-append-drop, drop_of_length-le}
use lib.Seq.{drop-cons, get_or-append_seam, take-append_seam}
use Rattle.lists.proofs.Choice.{cond_all, both}
use Rattle.rules.specs.Lines.{LF, CR, Line, empty_line, add_byte, lines_of, ends_in_cr, text_of, is_printable, NoByte, NoLF, AllEnded}
use Rattle.rules.specs.Spelling.{LineEnd, lf, crlf, FirstLine}
use Rattle.rules.specs.Editing.{no_line_end}

-- ---- bytes without a given one

pub no_byte_append : (v : ℕ) (xs ys : List ℕ) → NoByte v xs → NoByte v ys → NoByte v (xs ++ ys)
no_byte_append v [] ys g h = h
no_byte_append v (x ∷ xs) ys g h = (g.0, no_byte_append v xs ys g.1 h)

pub no_byte_rest : (v : ℕ) (xs ys : List ℕ) → NoByte v (xs ++ ys) → NoByte v ys
no_byte_rest v [] ys h = h
no_byte_rest v (x ∷ xs) ys h = no_byte_rest v xs ys h.1

pub no_byte_take : (v n : ℕ) (l : List ℕ) → NoByte v l → NoByte v (take n l)
no_byte_take v zero l h = tt
no_byte_take v (suc n) [] h = tt
no_byte_take v (suc n) (b ∷ l) h = (h.0, no_byte_take v n l h.1)

no_byte_at : (v : ℕ) (l : List ℕ) → NoByte v l → (i : ℕ) → i < length l → get_or l i 0 ≡ v → ⊥
no_byte_at v [] h i n = absurd (omega arith)
no_byte_at v (b ∷ l) h zero n = h.0
no_byte_at v (b ∷ l) h (suc i) n = no_byte_at v l h.1 i (omega arith)

-- printable bytes hold none below 32
pub printable_without : (v : ℕ) → v < 32 → (l : List ℕ) → is_printable l ≡ true → NoByte v l
unfolding is_printable
printable_without v h [] e = tt
printable_without v h (b ∷ l) e =
    let p = both (leb 32 b && leb b 126) (is_printable l) e in
    let q = both (leb 32 b) (leb b 126) p.0 in
    (λ d. omega (arith, d, leb-true 32 b q.0), printable_without v h l p.1)

-- a new line holds no LF and no CR
module _ where
  tests : (b : ℕ) (l : List ℕ) → not (eqb b LF) && (not (eqb b CR) && no_line_end l) ≡ true
      → (b ≡ LF → ⊥) × (b ≡ CR → ⊥) × (no_line_end l ≡ true)
  tests b l h =
      let p = both (not (eqb b LF)) _ h in
      let q = both (not (eqb b CR)) _ p.1 in
      (eqb-false b LF (not-true (eqb b LF) p.0), eqb-false b CR (not-true (eqb b CR) q.0), q.1)

  pub new_no_lf : (l : List ℕ) → no_line_end l ≡ true → NoLF l
  unfolding no_line_end
  new_no_lf [] h = tt
  new_no_lf (b ∷ l) h = let t = tests b l h in (t.0, new_no_lf l t.2)

  pub new_no_cr : (l : List ℕ) → no_line_end l ≡ true → NoByte CR l
  unfolding no_line_end
  new_no_cr [] h = tt
  new_no_cr (b ∷ l) h = let t = tests b l h in (t.1, new_no_cr l t.2)

  pub no_line_end_lem : (l : List ℕ) → NoLF l → NoByte CR l → no_line_end l ≡ true
  unfolding no_line_end
  no_line_end_lem [] g h = refl
  no_line_end_lem (b ∷ l) g h = rw (ne_eqb b LF g.0, ne_eqb b CR h.0) (no_line_end_lem l g.1 h.1)

-- ---- a line's text

pub no_cr : (l : List ℕ) → NoByte CR l → ends_in_cr l ≡ false
unfolding ends_in_cr
no_cr l h = go (dec_lt 0 (length l))
  where
    go : Dec (0 < length l) → ends_in_cr l ≡ false
    go (yes n) = rw (lt-ltb 0 (length l) n, ne_eqb (get_or l (length l - 1) 0) CR (no_byte_at CR l h (length l - 1) (omega arith)))
    go (no n) = rw (le-ltb 0 (length l) (omega arith))

pub ends_cr : (l : List ℕ) → ends_in_cr (l ++ (CR ∷ [])) ≡ true
unfolding ends_in_cr
ends_cr l =
    let n : length (l ++ (CR ∷ [])) ≡ length l + 1 = length-append l (CR ∷ []) in
    let m : length l + 1 - 1 ≡ length l = omega arith in
    rw (n, m, lt-ltb 0 (length l + 1) (omega arith), get_or-append_seam l CR [] 0)

pub text_plain : (l : List ℕ) → ends_in_cr l ≡ false → text_of l ≡ l
unfolding text_of
text_plain l e = rw e

pub text_cr : (l : List ℕ) → text_of (l ++ (CR ∷ [])) ≡ l
unfolding text_of
text_cr l =
    let n : length (l ++ (CR ∷ [])) ≡ length l + 1 = length-append l (CR ∷ []) in
    let m : length l + 1 - 1 ≡ length l = omega arith in
    rw (ends_cr l, n, m, take-append_seam l (CR ∷ []))

-- a line that ends in a CR is its text and the CR
pub cr_last : (l : List ℕ) → ends_in_cr l ≡ true → l ≡ text_of l ++ (CR ∷ [])
unfolding text_of ends_in_cr
cr_last l e =
    let h = both (ltb 0 (length l)) (eqb (get_or l (length l - 1) 0) CR) e in
    let n : 0 < length l = ltb-true 0 (length l) h.0 in
    let m : length l ≤ suc (length l - 1) = omega arith in
    let c : get_or l (length l - 1) 0 ≡ CR = eqb-true (get_or l (length l - 1) 0) CR h.1 in
    rw (lt-ltb 0 (length l) n, eq-eqb (get_or l (length l - 1) 0) CR c)
    (sym (take-append-drop (length l - 1) l)
    ∙ ap (λ (z : List ℕ). take (length l - 1) l ++ z) (drop-cons l (length l - 1) 0 (omega arith) ∙ ap₂ ◌∷◌ c (drop_of_length-le l {i = suc (length l - 1)} m)))

-- ---- one line, its end, and then other bytes

abbrev pub ended_line : List ℕ → Line
ended_line l = record { bytes = l; ended = true }

-- what of a line's end belongs to the line's bytes
abbrev pub cr_of : {e : List ℕ} → LineEnd e → List ℕ
cr_of lf = []
cr_of crlf = CR ∷ []

-- a line with the text l and the end e
abbrev pub line_with : {e : List ℕ} → List ℕ → LineEnd e → Line
line_with l e = ended_line (l ++ cr_of e)

pub lf_line : (l rest : List ℕ) → NoLF l → lines_of (l ++ (LF ∷ rest)) ≡ ended_line l ∷ lines_of rest
unfolding lines_of
lf_line [] rest h = refl
lf_line (b ∷ l) rest h = rw (ne_eqb b LF h.0, lf_line l rest h.1)

pub end_line : (l : List ℕ) {e : List ℕ} (w : LineEnd e) (rest : List ℕ) → NoLF l → lines_of (l ++ (e ++ rest)) ≡ line_with l w ∷ lines_of rest
end_line l lf rest h = rw (append-nil l) (lf_line l rest h)
end_line l crlf rest h =
    ap lines_of (sym (append_assoc l (CR ∷ []) (LF ∷ rest))) ∙ lf_line (l ++ (CR ∷ [])) rest (no_byte_append LF l (CR ∷ []) h (λ e. omega arith, tt))

-- its text is l, where a CR at the end of l isn't taken for a part of the end
pub end_text : (l : List ℕ) {e : List ℕ} (w : LineEnd e) → (e ≡ LF ∷ [] → ends_in_cr l ≡ false) → text_of (line_with l w).bytes ≡ l
end_text l lf h = rw (append-nil l) (text_plain l (h refl))
end_text l crlf h = text_cr l

-- ---- whole lines, and then other bytes

-- what the first byte of a line does to whole lines before others
add_append : (b : ℕ) (ls ms : List Line) → AllEnded (add_byte b ls) → add_byte b (ls ++ ms) ≡ add_byte b ls ++ ms
add_append b [] ms h = absurd (false≢true h.0)
add_append b (l ∷ ls) ms h = refl

pub add_ended : (b : ℕ) (ls : List Line) → AllEnded (add_byte b ls) → AllEnded ls
add_ended b [] h = tt
add_ended b (l ∷ ls) h = h

byte_append : (b : ℕ) (xs ys : List ℕ) (t : Bool) → (AllEnded (lines_of xs) → lines_of (xs ++ ys) ≡ lines_of xs ++ lines_of ys)
    → AllEnded (cond t (empty_line ∷ lines_of xs) (add_byte b (lines_of xs)))
    → cond t (empty_line ∷ lines_of (xs ++ ys)) (add_byte b (lines_of (xs ++ ys))) ≡ cond t (empty_line ∷ lines_of xs) (add_byte b (lines_of xs)) ++ lines_of ys
byte_append b xs ys true ih h = ap (λ (z : List Line). empty_line ∷ z) (ih h.1)
byte_append b xs ys false ih h = ap (add_byte b) (ih (add_ended b (lines_of xs) h)) ∙ add_append b (lines_of xs) (lines_of ys) h

pub lines_append : (xs ys : List ℕ) → AllEnded (lines_of xs) → lines_of (xs ++ ys) ≡ lines_of xs ++ lines_of ys
unfolding lines_of
lines_append [] ys h = refl
lines_append (b ∷ xs) ys h = byte_append b xs ys (eqb b LF) (lines_append xs ys) h

-- ---- the first line of some bytes

-- it is ended, and these are its bytes and the lines after it; or all bytes are a line that isn't
pub data First (bs : List ℕ) (l : Line) (ls : List Line) : Type 0 where
  ended : (rest : List ℕ) → l.ended ≡ true → bs ≡ l.bytes ++ (LF ∷ rest) → NoLF l.bytes → lines_of rest ≡ ls → First bs l ls
  last : l.ended ≡ false → (bs ≡ [] → ⊥) → NoLF bs → First bs l ls

abbrev pub FirstOf : List ℕ → List Line → Type 0
FirstOf bs [] = bs ≡ []
FirstOf bs (l ∷ ls) = First bs l ls

first_more : (b : ℕ) (bs : List ℕ) (ls : List Line) → (b ≡ LF → ⊥) → FirstOf bs ls → FirstOf (b ∷ bs) (add_byte b ls)
first_more b bs [] n h = last refl (λ e. let z : ◌≡◌ {A = ℕ} 0 1 = cc in omega arith) (n, rw h tt)
first_more b bs (l ∷ ls) n (ended rest t p f r) = ended rest t (ap (λ (z : List ℕ). b ∷ z) p) (n, f) r
first_more b bs (l ∷ ls) n (last t m f) = last t (λ e. let z : ◌≡◌ {A = ℕ} 0 1 = cc in omega arith) (n, f)

pub first_of : (bs : List ℕ) → FirstOf bs (lines_of bs)
unfolding lines_of
first_of [] = refl
first_of (b ∷ bs) =
    cond_all (FirstOf (b ∷ bs)) (eqb b LF) (λ e. ended bs refl (ap (λ (z : ℕ). z ∷ bs) (eqb-true b LF e)) tt refl)
    (λ e. first_more b bs (lines_of bs) (eqb-false b LF e) (first_of bs))

text_no_lf : (l : List ℕ) → NoLF l → ends_in_cr l ≡ true → NoLF (text_of l)
unfolding text_of
text_no_lf l f e = rw e (no_byte_take LF (length l - 1) l f)

-- an ended line's text and end
pub first_line : (bs l rest : List ℕ) → bs ≡ l ++ (LF ∷ rest) → NoLF l → FirstLine bs (text_of l) rest
first_line bs l rest p f = by (ends_in_cr l) refl
  where
    by : (t : Bool) → ends_in_cr l ≡ t → FirstLine bs (text_of l) rest
    by true e = record {
      end = CR ∷ LF ∷ [];
      ends = crlf;
      parts = p ∙ ap (λ (z : List ℕ). z ++ (LF ∷ rest)) (cr_last l e) ∙ append_assoc (text_of l) (CR ∷ []) (LF ∷ rest);
      one_line = text_no_lf l f e;
      no_cr_left = λ w. absurd (let z : ◌≡◌ {A = ℕ} 13 10 = cc in omega arith);
    }
    by false e = record {
      end = LF ∷ [];
      ends = lf;
      parts = p ∙ ap (λ (z : List ℕ). z ++ (LF ∷ rest)) (sym (text_plain l e));
      one_line = rw (text_plain l e) f;
      no_cr_left = λ w b c. false≢true (sym e ∙ ap ends_in_cr (sym (text_plain l e) ∙ c) ∙ ends_cr b);
    }

-- a text that ends in no CR
pub no_cr_end : (l : List ℕ) → ((b : List ℕ) → l ≡ b ++ (CR ∷ []) → ⊥) → ends_in_cr l ≡ false
no_cr_end l h = by (ends_in_cr l) refl
  where
    by : (t : Bool) → ends_in_cr l ≡ t → ends_in_cr l ≡ false
    by true e = absurd (h (text_of l) (cr_last l e))
    by false e = e

module _ {bs l rest : List ℕ} (w : FirstLine bs l rest) where
  pub first_falls : lines_of bs ≡ line_with l w.ends ∷ lines_of rest
  first_falls = ap lines_of w.parts ∙ end_line l w.ends rest w.one_line

  pub first_text : text_of (line_with l w.ends).bytes ≡ l
  first_text = end_text l w.ends (λ e. no_cr_end l (w.no_cr_left e))

-- ---- lines, put together again

abbrev pub join_of : List Line → List ℕ
join_of [] = []
join_of (l ∷ ls) = l.bytes ++ (cond l.ended (LF ∷ []) [] ++ join_of ls)

join_byte : (b : ℕ) (ls : List Line) → join_of (add_byte b ls) ≡ b ∷ join_of ls
join_byte b [] = refl
join_byte b (l ∷ ls) = refl

pub join_lines : (bs : List ℕ) → join_of (lines_of bs) ≡ bs
unfolding lines_of
join_lines [] = refl
join_lines (b ∷ bs) =
    cond_all (λ ls. join_of ls ≡ b ∷ bs) (eqb b LF) (λ e. ap₂ ◌∷◌ (sym (eqb-true b LF e)) (join_lines bs))
    (λ _. join_byte b (lines_of bs) ∙ ap (λ (z : List ℕ). b ∷ z) (join_lines bs))
