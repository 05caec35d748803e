-- The text of the sums of a run, read back line by line.
use Rattle.std.proofs.Common.{◌≡◌, ℕ, zero, suc, ◌+◌, ◌<◌, ◌≤◌, min, List, [], ◌∷◌, ◌++◌, length, decimal, codes, Some, None, Ok, refl, ap, sym, ◌∙◌, append_assoc, arith}
use Rattle.std.proofs.lemmas.Bool.{cond-true, cond-false, ne_eqb, le-leb}
use Rattle.std.proofs.lemmas.List.FromFn.{length-map-range_with_len, map-range_with_len_more}
use Rattle.sha2.specs.Sha256.{sha256}
use Rattle.snes_defs.specs.declared.region.Region.{Region}
use Rattle.snes_defs.specs.declared.ports.Side.TheVariants.{Console, Sound}
use Rattle.frame_sums.specs.Pieces.{piece_of}
use Rattle.frame_sums.specs.Text.{line_text, frames_text, sums_text}
use Rattle.frame_sums.specs.SumsFile.{SumsRead, no_sums, pair_behind, after_all, after_sums, after_sums_line, sums_going_on, sums_on, sums_of_file}
use Rattle.frame_sums.specs.Compare.{run_pair, run_all}
use Rattle.frame_sums.proofs.TextLemmas.{frames_none, frames_next}
use Rattle.frame_sums_laws.specs.RunSums.{run_pairs, run_sums}
use Rattle.frame_sums_laws.proofs.Printed.{printed_by_test, decimal_printed}
use Rattle.frame_sums_laws.proofs.BareLines.{bare_lines, bare_first, bare_last}
use Rattle.frame_sums_laws.proofs.SumLines.{body_of, line_is_body, body_printed, sums_back, frame_not_all}

-- a line behind the first
later_line : (number : ℕ) (r : SumsRead) (line : List ℕ) → 2 ≤ number → after_sums_line number r line ≡ after_sums r r.all line
unfolding after_sums_line
later_line number r line later = cond-false _ _ _ (ne_eqb number 1 (λ e. absurd (omega (arith, later, e))))

-- the names of the columns
first_line : after_sums_line 1 no_sums (codes "frame,picture,sound") ≡ Some no_sums
unfolding after_sums_line
first_line = refl

module _ (region : Region) (video audio : List ℕ) where
  abbrev Picture : ℕ → List ℕ
  Picture frame = sha256 (piece_of region Console frame video)

  abbrev Samples : ℕ → List ℕ
  Samples frame = sha256 (piece_of region Sound frame audio)

  abbrev Lines : ℕ → List ℕ
  Lines frames = frames_text Picture Samples frames

  abbrev Body : ℕ → List ℕ
  Body frame = body_of (decimal frame) (Picture frame) (Samples frame)

  abbrev Last : List ℕ
  Last = body_of (codes "all") (sha256 video) (sha256 audio)

  -- what was read after the lines of so many frames
  abbrev So_far : ℕ → SumsRead
  So_far frames = record { frames = run_pairs region video audio frames; all = None }

  pairs_size : (frames : ℕ) → length (run_pairs region video audio frames) ≡ frames
  pairs_size frames = length-map-range_with_len (run_pair region video audio) 0 frames

  pairs_more : (frames : ℕ) → run_pairs region video audio frames ++ run_pair region video audio frames ∷ [] ≡ run_pairs region video audio (suc frames)
  pairs_more frames =
      let next : frames + 1 ≡ suc frames = omega arith in
      sym (map-range_with_len_more (run_pair region video audio) 0 frames frames (omega arith)) ∙ ap (λ n. run_pairs region video audio n) next

  -- the line of the next frame gives its two sums
  frame_read : (frame number : ℕ) → frame < 36000 → 2 ≤ number → after_sums_line number (So_far frame) (Body frame) ≡ Some (So_far (suc frame))
  frame_read frame number few later =
      let few_read : length (run_pairs region video audio frame) + 1 ≤ 36000 = omega (arith, pairs_size frame, few) in
      later_line number (So_far frame) (Body frame) later
      ∙ ap (λ all. after_all (So_far frame) all (pair_behind (decimal (length (run_pairs region video audio frame))) (Body frame))) (frame_not_all frame (omega (arith, few)) (Picture frame) (Samples frame))
      ∙ ap (λ n. after_all (So_far frame) None (pair_behind (decimal n) (Body frame))) (pairs_size frame)
      ∙ ap (λ pair. after_all (So_far frame) None pair) (sums_back (decimal frame) (piece_of region Console frame video) (piece_of region Sound frame audio))
      ∙ cond-true _ _ _ (le-leb _ 36000 few_read)
      ∙ ap (λ pairs. Some (record { frames = pairs; all = None })) (pairs_more frame)

  -- the first lines of frames give the sums of these
  frames_read : (frames : ℕ) → frames ≤ 36000 → (rest : List ℕ)
      → sums_on (bare_lines (Lines frames ++ rest)) 2 no_sums ≡ sums_on (bare_lines rest) (2 + frames) (So_far frames)
  frames_read zero few rest = ap (λ l. sums_on (bare_lines (l ++ rest)) 2 no_sums) (frames_none Picture Samples)
  frames_read (suc frame) few rest =
      let line = line_text (decimal frame) (Picture frame) (Samples frame) in
      let number : min (2 + frame + 1) 4294967295 ≡ 2 + suc frame = omega (arith, few) in
      ap (λ l. sums_on (bare_lines l) 2 no_sums) (ap (λ l. l ++ rest) (frames_next Picture Samples frame) ∙ append_assoc (Lines frame) line rest)
      ∙ frames_read frame (omega (arith, few)) (line ++ rest)
      ∙ ap (λ l. sums_on l (2 + frame) (So_far frame)) (
      ap (λ l. bare_lines (l ++ rest)) (line_is_body (decimal frame) (Picture frame) (Samples frame))
      ∙ bare_first (Body frame) (body_printed (decimal frame) (Picture frame) (Samples frame) (decimal_printed frame (omega (arith, few)))) rest
      )
      ∙ ap (λ r. sums_going_on r (2 + frame) (sums_on (bare_lines rest) (min (2 + frame + 1) 4294967295))) (frame_read frame (2 + frame) few (omega arith))
      ∙ ap (λ n. sums_on (bare_lines rest) n (So_far (suc frame))) number

  -- the last line
  last_bare : bare_lines (line_text (codes "all") (sha256 video) (sha256 audio)) ≡ Last ∷ []
  last_bare =
      ap (λ l. bare_lines l) (line_is_body (codes "all") (sha256 video) (sha256 audio))
      ∙ bare_last Last (body_printed (codes "all") (sha256 video) (sha256 audio) (printed_by_test (codes "all") refl))

  last_read : (frames number : ℕ) → 2 ≤ number → after_sums_line number (So_far frames) Last ≡ Some (record (So_far frames) { all = Some (run_all video audio) })
  last_read frames number later =
      later_line number (So_far frames) Last later
      ∙ ap (λ all. after_all (So_far frames) all (pair_behind (decimal (length (run_pairs region video audio frames))) Last)) (sums_back (codes "all") video audio)

  -- the whole text
  pub text_back : (frames : ℕ) → frames ≤ 36000 → sums_of_file (sums_text region frames video audio) ≡ Ok (run_sums region frames video audio)
  unfolding sums_of_file
  text_back frames few =
      let last = line_text (codes "all") (sha256 video) (sha256 audio) in
      ap (λ l. sums_on l 1 no_sums) (bare_first (codes "frame,picture,sound") (printed_by_test (codes "frame,picture,sound") refl) (Lines frames ++ last))
      ∙ ap (λ r. sums_going_on r 1 (sums_on (bare_lines (Lines frames ++ last)) 2)) first_line
      ∙ frames_read frames few last
      ∙ ap (λ l. sums_on l (2 + frames) (So_far frames)) last_bare
      ∙ ap (λ r. sums_going_on r (2 + frames) (sums_on [] (min (2 + frames + 1) 4294967295))) (last_read frames (2 + frames) (omega arith))
