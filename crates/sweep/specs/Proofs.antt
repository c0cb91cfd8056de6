-- The theorem of Theorems: the reply is what the rules leave, and of these the theorems of `concrete` speak.
use Rattle.std.specs.Prelude.{◌≡◌, refl, ◌⊎◌, List, [], Bool, true, false, cond, ℕ, ◌≤◌, eqb, ℤ, get_or}
use Rattle.std.proofs.Common.{sym, ◌∙◌, ap, subst, inl, inr, arith}
use Rattle.std.proofs.Math.Option.{Option, none, some}
use Rattle.dbm.specs.Matrix.{Matrix, Outcome, void, kept}
use Rattle.dbm.specs.Entries.{up_to_4}
use Rattle.weight.specs.Upper.{Upper}
use Rattle.expr.specs.Ranges.{Inside}
use Rattle.expr.specs.Records.{range_list}
use Rattle.reading.specs.File.{Fine, read_of}
use Rattle.reading.proofs.Accepted.{read_well_formed}
use Rattle.weight_matrix.specs.Records.{row}
use Rattle.walk.specs.Coded.{in_row, weight_as_lem}
use Rattle.concrete.specs.Padding.{padded}
use Rattle.concrete.specs.Proofs.{void_iff_no_run, entries_tightest}
use Rattle.sweep.specs.Reply.{SweepReply, row_record, zero_rows, blank_reply, swept, outside, or_outside, sheet_reply, read_reply, reply_of}
use Rattle.sweep.specs.ReplyLaws.{inside_none}
use Rattle.concrete.specs.Walk.{sweep_at}
use Rattle.timed.specs.Runs.{Tightest}
use Rattle.sweep.specs.Theorems.{sheet_of, IsRun, entry_at, Right, SweepRight}

pub inside_reply : (file : List ℕ) (v : List ℤ) → Fine (read_of file) → Inside v (range_list (sheet_of file).ranges)
    → reply_of file v ≡ swept (sweep_at (sheet_of file) v)
unfolding reply_of read_reply sheet_reply
inside_reply file v f h = rw (f, inside_none 0 (range_list (sheet_of file).ranges) v h) refl

is_void_lem : (o : Outcome) → (swept o).answer.number ≡ 1 → o ≡ void
unfolding swept
is_void_lem void e = refl
is_void_lem (kept m) e = absurd (omega arith)

void_is : (o : Outcome) → o ≡ void → (swept o).answer.number ≡ 1
unfolding swept blank_reply
void_is o e = rw e refl

kept_is : (o : Outcome) → (swept o).answer.number ≡ 0 → (m : Matrix (Upper ℤ)) × (o ≡ kept m)
unfolding swept blank_reply
kept_is void e = absurd (omega arith)
kept_is (kept m) e = (m, refl)

one_of : (o : Outcome) → ((swept o).answer.number ≡ 0) ⊎ ((swept o).answer.number ≡ 1)
unfolding swept blank_reply
one_of void = inr refl
one_of (kept m) = inl refl

row_in : (m : Matrix (Upper ℤ)) (i : ℕ) → i ≤ 4 → (get_or (swept (kept m)).rows i (row_record [])).entries ≡ row m i
unfolding swept
row_in m = up_to_4 (λ i. (get_or (swept (kept m)).rows i (row_record [])).entries ≡ row m i) refl refl refl refl refl

entry_in : (m : Matrix (Upper ℤ)) (i j : ℕ) → i ≤ 4 → j ≤ 4 → entry_at (swept (kept m)) i j ≡ m i j
entry_in m i j hi hj = rw (row_in m i hi, in_row m i j hj) (weight_as_lem (m i j))

-- what the reply has where Sweep's rules leave a matrix
pub reply_entry : (file : List ℕ) (v : List ℤ) → Fine (read_of file) → Inside v (range_list (sheet_of file).ranges)
    → (m : Matrix (Upper ℤ)) → sweep_at (sheet_of file) v ≡ kept m → (i j : ℕ) → i ≤ 4 → j ≤ 4 → entry_at (reply_of file v) i j ≡ m i j
reply_entry file v f h m e i j hi hj =
    ap (λ (x : SweepReply). entry_at x i j) (inside_reply file v f h ∙ ap swept e) ∙ entry_in m i j hi hj

right_at : (file : List ℕ) (v : List ℤ) → Fine (read_of file) → Inside v (range_list (sheet_of file).ranges) → Right file v
right_at file v fine h =
    let s = sheet_of file in
    let f = read_well_formed file fine in
    let o = sweep_at s v in
    let e = ap (λ (x : SweepReply). x.answer.number) (inside_reply file v fine h) in
    record {
      answered = rw e (one_of o);
      void_iff_no_run = (
        λ g. (void_iff_no_run s f v).0 (is_void_lem o (sym e ∙ g)),
        λ g. e ∙ void_is o ((void_iff_no_run s f v).1 g),
      );
      entries_tightest = λ g i j hi hj.
          let k = kept_is o (sym e ∙ g) in
          let hi' : i ≤ 4 = omega (arith, f.clocks) in
          let hj' : j ≤ 4 = omega (arith, f.clocks) in
          subst (Tightest s v i j) (sym (reply_entry file v fine h k.0 k.1 i j hi' hj'))
          (entries_tightest s f v k.0 k.1 i j hi hj);
      entries_padded = λ g i j hi hj out.
          let k = kept_is o (sym e ∙ g) in
          reply_entry file v fine h k.0 k.1 i j hi hj ∙ padded s v k.0 k.1 i j out;
    }

swept_blank : (o : Outcome) → ((swept o).answer.number ≡ 0 → ⊥) → (swept o).rows ≡ zero_rows
unfolding swept blank_reply
swept_blank void n = refl
swept_blank (kept m) n = absurd (n refl)

blank_at : (file : List ℕ) (v : List ℤ) → (IsRun file v → ⊥) → (reply_of file v).rows ≡ zero_rows
unfolding reply_of read_reply sheet_reply blank_reply
blank_at file v = by (eqb (read_of file).answer.number 0) (outside 0 (range_list (sheet_of file).ranges) v)
  where
    reply : Bool → Option ℕ → SweepReply
    reply b o = cond b (or_outside (swept (sweep_at (sheet_of file) v)) o) (blank_reply (read_of file).answer)

    by : (b : Bool) (o : Option ℕ) → ((reply b o).answer.number ≡ 0 → ⊥) → (reply b o).rows ≡ zero_rows
    by true none n = swept_blank (sweep_at (sheet_of file) v) n
    by true (some k) n = refl
    by false o n = refl

pub sweep_right : SweepRight
sweep_right = record { right = right_at; blank = blank_at }
