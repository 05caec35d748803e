-- The lines of a text whose first line is known: that line without its line feed, and then those of the rest.
use Rattle.std.proofs.Common.{◌≡◌, ◌≢◌, ℕ, ◌+◌, ◌-◌, ◌<◌, ◌≤◌, ◌&&◌, nat_lt, ◌==◌, List, [], ◌∷◌, ◌++◌, length, map, slice_index, All, ap, ◌∙◌, inr, length-append, take_at, arith}
use Rattle.std.proofs.lemmas.Bool.{cond-true, cond-false, and_from, and_parts, lt-ltb, ltb-true, eq-eqb, eqb-true, false_from_ne_true}
use Rattle.std.proofs.lemmas.List.{get_or_push, get_or_append_left}
use Rattle.bstr.specs.Text.{lines_of, no_cr, without_terminator}
use Rattle.bstr.proofs.lemmas.LineLemmas.{lines-append, lines-one, lines-nil}
use Rattle.frame_sums_laws.proofs.Printed.{IsPrinted}

-- the lines of a text as a reader of sums takes them
abbrev pub bare_lines : List ℕ → List (List ℕ)
bare_lines text = map without_terminator (lines_of text)

pub bare_none : bare_lines [] ≡ []
bare_none = ap (λ l. map without_terminator l) lines-nil

module _ (body : List ℕ) (printed : All IsPrinted body) where
  abbrev Line : List ℕ
  Line = body ++ 10 ∷ []

  size : length Line ≡ length body + 1
  size = length-append body (10 ∷ [])

  last_place : length body ≡ length Line - 1
  last_place = omega (arith, size)

  feed_last : slice_index Line (length Line - 1) ≡ 10
  feed_last = get_or_push body 10 0 (length Line - 1) last_place

  no_feed : (k : ℕ) → k + 1 < length Line → slice_index Line k ≢ 10
  no_feed k within is =
      let inside : k < length body = omega (arith, within, size) in
      let same : slice_index Line k ≡ slice_index body k = get_or_append_left body (10 ∷ []) 0 k inside in
      let large : 32 ≤ slice_index body k = printed k 0 inside in
      absurd (omega (arith, same, large, is))

  one_line : lines_of Line ≡ Line ∷ []
  one_line = lines-one Line (omega (arith, size)) no_feed

  -- no carriage return is before the line feed
  no_return : no_cr body ≡ body
  no_return =
      cond-false _ _ _ (false_from_ne_true (nat_lt 0 (length body) && (slice_index body (length body - 1) == 13)) (λ both.
      let parts = and_parts (nat_lt 0 (length body)) (slice_index body (length body - 1) == 13) both in
      let some : 0 < length body = ltb-true 0 (length body) parts.0 in
      let is : slice_index body (length body - 1) ≡ 13 = eqb-true (slice_index body (length body - 1)) 13 parts.1 in
      let large : 32 ≤ slice_index body (length body - 1) = printed (length body - 1) 0 (omega (arith, some)) in
      absurd (omega (arith, is, large))))

  bare : without_terminator Line ≡ body
  bare =
      cond-true _ _ _ (and_from _ _ (lt-ltb 0 (length Line) (omega (arith, size))) (eq-eqb (slice_index Line (length Line - 1)) 10 feed_last))
      ∙ ap (λ l. no_cr l) (take_at body (10 ∷ []) (length Line - 1) last_place)
      ∙ no_return

  pub bare_first : (rest : List ℕ) → bare_lines ((body ++ 10 ∷ []) ++ rest) ≡ body ∷ bare_lines rest
  bare_first rest =
      ap (λ l. map without_terminator l) (lines-append (length Line) Line rest (omega arith) (inr feed_last) ∙ ap (λ l. l ++ lines_of rest) one_line)
      ∙ ap (λ l. l ∷ bare_lines rest) bare

  -- the last line
  pub bare_last : bare_lines (body ++ 10 ∷ []) ≡ body ∷ []
  bare_last = ap (λ l. map without_terminator l) one_line ∙ ap (λ l. l ∷ []) bare
