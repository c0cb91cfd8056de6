-- Files of paper 01, "Sheets to try", and a file of version 2 (paper 02, request (i)), as bytes, and what the definitions say of each, by
-- computing.
use Rattle.std.specs.Prelude.{ℕ, ◌≡◌, refl, List, [], ◌∷◌, ◌++◌, false, set, take, replicate, pos, negsuc}
use Rattle.integer.specs.Parts.{p}
use Rattle.expr.specs.Records.{blank_range, four}
use Rattle.valuations.specs.Valuations.{width, widths}
use Rattle.answers.specs.Numbers.{numbered}
use Rattle.cursor.specs.Cursor.{shifted, signed_of, judged, byte_taken, word_taken, signed_taken, byte_field, below_field, word_field}
use Rattle.cursor.specs.Cursor.{signed_field, finished, iterate}
use Rattle.contents.specs.Contents.{sized, entry_field, version_of, most_parameters, head_of, one_of, first_of, two_of, second_of, three_of}
use Rattle.contents.specs.Contents.{third_of, four_of, contents_of}
use Rattle.guards.specs.declared.Guard.{Guard}
use Rattle.sheet.specs.declared.Sheet.{Sheet}
use Rattle.guards.specs.Guards.{guard_expr, guard_bound, one_zero, right_field, coef_step, zero_coefs, coefs_at, zero_step, zeros_at, guard_at}
use Rattle.guards.specs.Guards.{blank_guard, blank_guards, guard_step, guards_at}
use Rattle.parameters.specs.Parameters.{range_of, highest_right, highest_field, range_step, blank_ranges, parameters_read, parameters_at}
use Rattle.automaton.specs.Automaton.{blank_location, blank_locations, location_step, locations_read, locations_at, resets_right, resets_field}
use Rattle.automaton.specs.Automaton.{transition_at, blank_transition, blank_transitions, transition_step, transitions_read, transitions_at}
use Rattle.route.specs.Route.{route_step, route_read, route_at, ends_at, link_step, links_of}
use Rattle.reading.specs.File.{blank_sheet, refused_by, bodies_of, judged_route, judged_widths, judged_bodies, read_of}

-- contents of four bodies of 5, 16, 17 and 2 bytes
contents_a : List ℕ
contents_a = 1 ∷ 4 ∷ 1 ∷ 22 ∷ 0 ∷ 5 ∷ 0 ∷ 2 ∷ 27 ∷ 0 ∷ 16 ∷ 0 ∷ 3 ∷ 43 ∷ 0 ∷ 17 ∷ 0 ∷ 4 ∷ 60 ∷ 0 ∷ 2 ∷ 0 ∷ []

-- 1 - 0 ≤ p
bytes_p : List ℕ
bytes_p = 1 ∷ 0 ∷ 0 ∷ 0 ∷ 0 ∷ 0 ∷ 1 ∷ 0 ∷ 0 ∷ 0 ∷ 0 ∷ 0 ∷ []

-- 0 - 1 ≤ -3
bytes_three : List ℕ
bytes_three = 0 ∷ 1 ∷ 0 ∷ 0 ∷ 253 ∷ 255 ∷ 0 ∷ 0 ∷ 0 ∷ 0 ∷ 0 ∷ 0 ∷ []

-- sheet A: p in 0..10; one clock; location 0 with the invariant 1 - 0 ≤ p; location 1; transition 0 from 0 to 1 with the guard 0 - 1 ≤ -3,
-- no resets; route 0
pub sheet_a : List ℕ
sheet_a =
    contents_a ++
    ((1 ∷ 0 ∷ 0 ∷ 10 ∷ 0 ∷ []) ++
    ((1 ∷ 2 ∷ 1 ∷ []) ++ (bytes_p ++ (0 ∷ 1 ∷ 0 ∷ 1 ∷ 0 ∷ 1 ∷ [] ++ (bytes_three ++ (1 ∷ 0 ∷ []))))))

-- the two guards as they are read
guard_p : Guard
guard_p =
    record {
      left = 1;
      right = 0;
      bound = record { none = false; strict = false; expr = record { constant = pos 0; coefs = four (pos 1 ∷ []) } };
    }

guard_three : Guard
guard_three =
    record {
      left = 0;
      right = 1;
      bound = record { none = false; strict = false; expr = record { constant = negsuc 2; coefs = four [] } };
    }

-- sheet A as it is read
pub read_a : Sheet
read_a =
    record {
      version = 1;
      parameters = 1;
      ranges = record { list = record { low = pos 0; high = pos 10 } ∷ blank_range ∷ blank_range ∷ blank_range ∷ [] };
      clocks = 1;
      locations = 2;
      location = set blank_locations 0 (record { count = 1; guards = set blank_guards 0 guard_p });
      transitions = 1;
      transition = set blank_transitions 0 (record { from = 0; to = 1; resets = 0; count = 1; guards = set blank_guards 0 guard_three });
      moves = 1;
      route = replicate 32 0;
    }

-- contents of four bodies of 17, 18, 19 and 2 bytes, version 2
contents_e : List ℕ
contents_e = 2 ∷ 4 ∷ 1 ∷ 22 ∷ 0 ∷ 17 ∷ 0 ∷ 2 ∷ 39 ∷ 0 ∷ 18 ∷ 0 ∷ 3 ∷ 57 ∷ 0 ∷ 19 ∷ 0 ∷ 4 ∷ 76 ∷ 0 ∷ 2 ∷ 0 ∷ []

-- four parameters, in 0..10, -2..2, 1..5 and 0..1
parameters_e : List ℕ
parameters_e = 4 ∷ 0 ∷ 0 ∷ 10 ∷ 0 ∷ 254 ∷ 255 ∷ 2 ∷ 0 ∷ 1 ∷ 0 ∷ 5 ∷ 0 ∷ 0 ∷ 0 ∷ 1 ∷ 0 ∷ []

-- 1 - 0 ≤ the first + 7 · the fourth
bytes_fourth : List ℕ
bytes_fourth = 1 ∷ 0 ∷ 0 ∷ 0 ∷ 0 ∷ 0 ∷ 1 ∷ 0 ∷ 0 ∷ 0 ∷ 0 ∷ 0 ∷ 7 ∷ 0 ∷ []

-- sheet E: as sheet A, in version 2 with four parameters; its guards have 14 bytes, and the fourth parameter counts in the first
pub sheet_e : List ℕ
sheet_e =
    contents_e ++
    (parameters_e ++
    ((1 ∷ 2 ∷ 1 ∷ []) ++ (bytes_fourth ++ (0 ∷ 1 ∷ 0 ∷ 1 ∷ 0 ∷ 1 ∷ [] ++ (bytes_three ++ (0 ∷ 0 ∷ 1 ∷ 0 ∷ []))))))

guard_fourth : Guard
guard_fourth =
    record {
      left = 1;
      right = 0;
      bound =
          record {
            none = false;
            strict = false;
            expr = record { constant = pos 0; coefs = pos 1 ∷ pos 0 ∷ pos 0 ∷ pos 7 ∷ [] };
          };
    }

-- sheet E as it is read
pub read_e : Sheet
read_e =
    record {
      version = 2;
      parameters = 4;
      ranges =
          record {
            list =
                record { low = pos 0; high = pos 10 } ∷
                record { low = negsuc 1; high = pos 2 } ∷
                record { low = pos 1; high = pos 5 } ∷
                record { low = pos 0; high = pos 1 } ∷
                [];
          };
      clocks = 1;
      locations = 2;
      location = set blank_locations 0 (record { count = 1; guards = set blank_guards 0 guard_fourth });
      transitions = 1;
      transition = set blank_transitions 0 (record { from = 0; to = 1; resets = 0; count = 1; guards = set blank_guards 0 guard_three });
      moves = 1;
      route = replicate 32 0;
    }

-- sheet E with the first three ranges of 64 numbers and the fourth of n + 1
pub wide : ℕ → List ℕ
wide n = set (set (set (set sheet_e 25 63) 29 61) 33 64) 37 n

-- 22 bytes, good contents, lengths 0
pub bare : List ℕ
bare = 1 ∷ 4 ∷ 1 ∷ 22 ∷ 0 ∷ 0 ∷ 0 ∷ 2 ∷ 22 ∷ 0 ∷ 0 ∷ 0 ∷ 3 ∷ 22 ∷ 0 ∷ 0 ∷ 0 ∷ 4 ∷ 22 ∷ 0 ∷ 0 ∷ 0 ∷ []

-- each file with what reading it gives
pub record Examples : Type 0 where
  pub sheet_a_lem : read_of sheet_a ≡ record { answer = numbered 0 0; sheet = read_a }
  pub range_63 : (read_of (set sheet_a 25 63)).answer ≡ numbered 0 0
  pub range_64 : (read_of (set sheet_a 25 64)).answer ≡ numbered 4 25
  pub bytes_21 : (read_of (take 21 sheet_a)).answer ≡ numbered 2 0
  pub bytes_22 : (read_of bare).answer ≡ numbered 4 22
  pub version_0 : (read_of (set sheet_a 0 0)).answer ≡ numbered 3 0
  pub version_3 : (read_of (set sheet_a 0 3)).answer ≡ numbered 3 0
  pub four_in_version_1 : (read_of (set sheet_a 22 4)).answer ≡ numbered 4 22
  pub last_byte_lost : (read_of (take 61 sheet_a)).answer ≡ numbered 3 20
  pub byte_left_over : (read_of (set sheet_a 22 0)).answer ≡ numbered 4 23
  pub both_clocks : (read_of (set sheet_a 31 1)).answer ≡ numbered 4 31
  pub no_clock : (read_of (set sheet_a 30 0)).answer ≡ numbered 4 31
  pub not_from_location_0 : (read_of (set sheet_a 44 1)).answer ≡ numbered 5 61
  pub no_such_transition : (read_of (set sheet_a 61 1)).answer ≡ numbered 4 61
  pub sheet_e_lem : read_of sheet_e ≡ record { answer = numbered 0 0; sheet = read_e }
  pub sheet_e_in_version_1 : (read_of (set sheet_e 0 1)).answer ≡ numbered 4 22
  pub five_parameters : (read_of (set sheet_e 22 5)).answer ≡ numbered 4 22
  pub three_in_version_2 : (read_of (set sheet_e 22 3)).answer ≡ numbered 4 35
  pub guard_of_12_bytes : (read_of (set sheet_a 0 2)).answer ≡ numbered 4 43
  pub valuations_262144 : (read_of (wide 0)).answer ≡ numbered 0 0
  pub valuations_524288 : (read_of (wide 1)).answer ≡ numbered 16 0
  pub sixteen_before_5 : (read_of (set (wide 1) 58 1)).answer ≡ numbered 16 0
  pub five_alone : (read_of (set (wide 0) 58 1)).answer ≡ numbered 5 77
  pub four_before_16 : (read_of (set (wide 1) 77 1)).answer ≡ numbered 4 77

pub examples : Examples
unfolding sheet_a contents_a bytes_p bytes_three guard_p guard_three read_a contents_e parameters_e bytes_fourth sheet_e guard_fourth read_e wide
    bare p width widths shifted judged byte_taken word_taken signed_taken byte_field word_field signed_field finished iterate sized
    entry_field version_of most_parameters head_of one_of first_of two_of second_of three_of third_of four_of contents_of signed_of guard_expr
    guard_bound one_zero right_field coef_step zero_coefs coefs_at zero_step zeros_at guard_at blank_guard blank_guards guard_step guards_at range_of
    highest_right highest_field range_step blank_ranges parameters_read parameters_at blank_location blank_locations location_step locations_read
    locations_at below_field resets_right resets_field transition_at blank_transition blank_transitions transition_step transitions_read
    transitions_at route_step route_read route_at ends_at link_step links_of blank_sheet refused_by bodies_of judged_route judged_widths
    judged_bodies read_of
examples =
    record {
      sheet_a_lem = refl;
      range_63 = refl;
      range_64 = refl;
      bytes_21 = refl;
      bytes_22 = refl;
      version_0 = refl;
      version_3 = refl;
      four_in_version_1 = refl;
      last_byte_lost = refl;
      byte_left_over = refl;
      both_clocks = refl;
      no_clock = refl;
      not_from_location_0 = refl;
      no_such_transition = refl;
      sheet_e_lem = refl;
      sheet_e_in_version_1 = refl;
      five_parameters = refl;
      three_in_version_2 = refl;
      guard_of_12_bytes = refl;
      valuations_262144 = refl;
      valuations_524288 = refl;
      sixteen_before_5 = refl;
      five_alone = refl;
      four_before_16 = refl;
    }
