-- Document 01's example: its 13 bytes give its seven lines. Assumes nothing.
use mathlib.Core.Path.{◌≡◌, refl}
use mathlib.Core.List.{List, [], ◌∷◌, flat_map}
use Prim.Native.Nat.{ℕ}
use Rattle.graphs.specs.Jobs.{from, up_to, keep, has, every, some, without}
use Rattle.graphs.specs.Filter.{to_take, rounds, filtered}
use Rattle.graphs.specs.Colouring.{fits_none, join_first, classes_on, classes, colours}
use Rattle.graphs.specs.Matching.{joined, best_of, most_joins, matched, matching_bound}
use Rattle.graphs.specs.Dominance.{dominates, dominated}
use Rattle.graphs.specs.Pins.{fitting_each}
use Rattle.graphs.specs.Walk.{by_size, by_colouring, by_matching, by_dominance, any_of, paper_tests, larger, walk, walk_from, walk_of, largest_met, outcome}
use Rattle.sets.specs.Words.{bit, in_words, jobs, number, words, set_of, row_of, fits}
use Rattle.sets.specs.Places.{first_in, first_place_in, first_place}
use Rattle.sets.specs.Rules.{gives, first_given}
use Rattle.sets.specs.Tables.{no1, no2, no3, no4, beyond, no5, itself, no6, one_way, no7, misfit}
use Rattle.night.specs.Format.{width, file_length}
use Rattle.night.specs.Reading.{marked, number_at, version_in, jobs_in, flagged, byte_at, bit_at, set_at, row_at, table_in, holds_in, no21, no22, no23, no24, no25, empty_list, no26, header_rules, word_rules, file_rules}
use Rattle.search.specs.Search.{search_rules, published_walk, search_says, result_after}
use Rattle.question.specs.Pins.{no40, no5_pins, pin_held, no41, no42}
use Rattle.question.specs.Question.{unheld}
use Rattle.question.specs.Start.{candidates}
use Rattle.sheet.specs.Text.{last_digits, decimal, behind, line, number_line}
use Rattle.sheet.specs.Sheet.{job_lines, lines, night_text, sheet_text}

-- "50 52 53 01 00 05 00 00 12 05 0A 14 09"
abbrev pub ring : List ℕ
ring = 0x50 ∷ 0x52 ∷ 0x53 ∷ 0x01 ∷ 0x00 ∷ 0x05 ∷ 0x00 ∷ 0x00 ∷ 0x12 ∷ 0x05 ∷ 0x0A ∷ 0x14 ∷ 0x09 ∷ []

-- "jobs 5", "held 0", "answer best", "size 2", "visits 5", "job 0", "job 1"
abbrev pub printed_ring : List ℕ
printed_ring =
    106 ∷ 111 ∷ 98 ∷ 115 ∷ 32 ∷ 53 ∷ 10 ∷
    104 ∷ 101 ∷ 108 ∷ 100 ∷ 32 ∷ 48 ∷ 10 ∷
    97 ∷ 110 ∷ 115 ∷ 119 ∷ 101 ∷ 114 ∷ 32 ∷ 98 ∷ 101 ∷ 115 ∷ 116 ∷ 10 ∷
    115 ∷ 105 ∷ 122 ∷ 101 ∷ 32 ∷ 50 ∷ 10 ∷
    118 ∷ 105 ∷ 115 ∷ 105 ∷ 116 ∷ 115 ∷ 32 ∷ 53 ∷ 10 ∷
    106 ∷ 111 ∷ 98 ∷ 32 ∷ 48 ∷ 10 ∷
    106 ∷ 111 ∷ 98 ∷ 32 ∷ 49 ∷ 10 ∷ []

pub sheet_of_ring : sheet_text ring ≡ printed_ring
unfolding from up_to keep has every some without to_take rounds filtered fits_none join_first classes_on classes colours joined best_of most_joins matched matching_bound dominates dominated by_size by_colouring by_matching by_dominance any_of paper_tests larger walk walk_from walk_of largest_met outcome bit in_words jobs number words set_of row_of fits first_in first_place_in first_place no1 no2 no3 no4 beyond no5 itself no6 one_way no7 misfit gives first_given width file_length marked number_at version_in jobs_in flagged byte_at bit_at set_at row_at table_in holds_in no21 no22 no23 no24 no25 empty_list no26 header_rules word_rules file_rules search_rules no40 no5_pins pin_held no41 no42 unheld fitting_each candidates published_walk search_says result_after sheet_text night_text lines job_lines number_line line behind decimal last_digits flat_map
sheet_of_ring = refl
