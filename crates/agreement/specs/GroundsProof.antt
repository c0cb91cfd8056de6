-- The proof of Grounds: what the reply is in each of four cases.
use Rattle.std.specs.Prelude.{◌≡◌, ◌⊎◌, List, Bool, true, false, ℕ, ◌≤◌, ◌<◌, ltb, eqb}
use Rattle.std.proofs.Math.Path.{refl, ap}
use Rattle.std.proofs.Common.{sym, subst, ◌∙◌, inl, inr, arith}
use borrow.Author.Tests.{ltb-true, ltb-false, lt-ltb, le-ltb, eqb-true, eqb-false, ne_eqb}
use Rattle.integer.specs.Apart.{apart}
use Rattle.answers.specs.Numbers.{numbered}
use Rattle.answers.specs.declared.Numbered.{Numbered}
use Rattle.cutting.specs.Cutting.{Listing, listed, refused, zones_of, SevenOrEight}
use Rattle.cutting.specs.Cutting as cutting
use Rattle.cutting.proofs.NumberedProof.{zones_numbered}
use Rattle.reading.specs.File.{Fine, read_of, OfFile}
use Rattle.reading.proofs.Accepted.{read_numbered}
use Rattle.sheet.specs.declared.Sheet.{Sheet}
use Rattle.sweep.specs.Theorems.{sheet_of}
use Rattle.windows_reply.specs.Reply as windows
use Rattle.windows_reply.specs.Reply.{WindowsReply, refused_reply, listing_reply}
use Rattle.agreement.specs.Behind.{lists_behind}
use Rattle.agreement.specs.Words.{windows_of, listed_reply}
use Rattle.agreement.specs.Grounds.{CutTo, Grounds}

number_of_lem : {a b : Numbered} → a ≡ b → a.number ≡ b.number
number_of_lem e = ap (λ (x : Numbered). x.number) e

at_least_two : {m : ℕ} → OfFile m → 2 ≤ m
at_least_two (inl e) = omega arith
at_least_two (inr (inl e)) = omega arith
at_least_two (inr (inr (inl e))) = omega arith
at_least_two (inr (inr (inr (inl e)))) = omega arith
at_least_two (inr (inr (inr (inr e)))) = omega arith

seven_or_eight : {m : ℕ} → SevenOrEight m → (7 ≤ m) × (m ≤ 8)
seven_or_eight (inl e) = (omega arith, omega arith)
seven_or_eight (inr e) = (omega arith, omega arith)

-- no refusal of a file is one of the cutting
not_both : {m : ℕ} → OfFile m → SevenOrEight m → ⊥
not_both (inl e) t = omega (arith, (seven_or_eight t).0)
not_both (inr (inl e)) t = omega (arith, (seven_or_eight t).0)
not_both (inr (inr (inl e))) t = omega (arith, (seven_or_eight t).0)
not_both (inr (inr (inr (inl e)))) t = omega (arith, (seven_or_eight t).1)
not_both (inr (inr (inr (inr e)))) t = omega (arith, (seven_or_eight t).0)

listed_one : {zs ys : List cutting.Zone} → listed zs ≡ listed ys → zs ≡ ys
listed_one e = cc

refused_not_listed : {m k : ℕ} {zs : List cutting.Zone} → refused m k ≡ listed zs → ⊥
refused_not_listed e = apart cc

refused_one : {m k a b : ℕ} → refused m k ≡ refused a b → numbered m k ≡ numbered a b
refused_one e = cc

module _ (file : List ℕ) (n : ℕ) where
  abbrev s : Sheet
  s = sheet_of file

  small_reply : n < 32 → windows_of file n ≡ refused_reply (numbered 1 0)
  unfolding windows.reply_of
  small_reply h = rw (lt-ltb n 32 h) refl

  refused_file : 32 ≤ n → (Fine (read_of file) → ⊥) → windows_of file n ≡ refused_reply (read_of file).answer
  unfolding windows.reply_of windows.read_reply
  refused_file h f = rw (le-ltb n 32 h, ne_eqb (read_of file).answer.number 0 f) refl

  cut_reply : 32 ≤ n → Fine (read_of file) → (o : Listing) → zones_of s ≡ o → windows_of file n ≡ listing_reply s o
  unfolding windows.reply_of windows.read_reply windows.sheet_reply
  cut_reply h f o e = rw (le-ltb n 32 h, f, e) refl

  cut_refused : 32 ≤ n → Fine (read_of file) → (m k : ℕ) → zones_of s ≡ refused m k → (windows_of file n).answer ≡ numbered m k
  unfolding listing_reply
  cut_refused h f m k e = ap (λ (r : WindowsReply). r.answer) (cut_reply h f (refused m k) e)

  cut_listed : 32 ≤ n → Fine (read_of file) → (zs : List cutting.Zone) → zones_of s ≡ listed zs
      → windows_of file n ≡ listed_reply s zs
  unfolding listing_reply
  cut_listed h f zs e = cut_reply h f (listed zs) e

  -- the cases
  data Case : Type 0 where
    is_small : n < 32 → Case
    is_refused : 32 ≤ n → (Fine (read_of file) → ⊥) → Case
    is_cut : 32 ≤ n → Fine (read_of file) → (m k : ℕ) → zones_of s ≡ refused m k → Case
    is_listed : 32 ≤ n → Fine (read_of file) → (zs : List cutting.Zone) → zones_of s ≡ listed zs → Case

  cut_case : 32 ≤ n → Fine (read_of file) → (o : Listing) → zones_of s ≡ o → Case
  cut_case h f (listed zs) e = is_listed h f zs e
  cut_case h f (refused m k) e = is_cut h f m k e

  file_case : 32 ≤ n → (b : Bool) → eqb (read_of file).answer.number 0 ≡ b → Case
  file_case h true e = cut_case h (eqb-true _ 0 e) (zones_of s) refl
  file_case h false e = is_refused h (eqb-false _ 0 e)

  case : Case
  case = by (ltb n 32) refl
    where
      by : (b : Bool) → ltb n 32 ≡ b → Case
      by true e = is_small (ltb-true n 32 e)
      by false e = file_case (ltb-false n 32 e) (eqb (read_of file).answer.number 0) refl

  -- the answer in each
  answer_small : n < 32 → (windows_of file n).answer ≡ numbered 1 0
  answer_small h = ap (λ (r : WindowsReply). r.answer) (small_reply h)

  answer_refused : 32 ≤ n → (Fine (read_of file) → ⊥) → (windows_of file n).answer ≡ (read_of file).answer
  answer_refused h f = ap (λ (r : WindowsReply). r.answer) (refused_file h f)

  answer_listed : 32 ≤ n → Fine (read_of file) → (zs : List cutting.Zone) → zones_of s ≡ listed zs → (windows_of file n).answer ≡ numbered 0 0
  answer_listed h f zs e = ap (λ (r : WindowsReply). r.answer) (cut_listed h f zs e)

  read_two : (Fine (read_of file) → ⊥) → OfFile (read_of file).answer.number
  read_two f = by (read_numbered file)
    where
      by : ((read_of file).answer.number ≡ 0) ⊎ OfFile (read_of file).answer.number → OfFile (read_of file).answer.number
      by (inl e) = absurd (f e)
      by (inr t) = t

  from_small : Case → (windows_of file n).answer ≡ numbered 1 0 → n < 32
  from_small (is_small h) e = h
  from_small (is_refused h f) e =
      let t = at_least_two (read_two f) in let g = number_of_lem (sym (answer_refused h f) ∙ e) in absurd (omega (arith, t))
  from_small (is_cut h f m k q) e =
      let t = seven_or_eight (zones_numbered s m k q) in let g = number_of_lem (sym (cut_refused h f m k q) ∙ e) in absurd (omega (arith, t.0))
  from_small (is_listed h f zs q) e = let g = number_of_lem (sym (answer_listed h f zs q) ∙ e) in absurd (omega arith)

  from_file : (m k : ℕ) → OfFile m → Case → (windows_of file n).answer ≡ numbered m k → (32 ≤ n) × ((read_of file).answer ≡ numbered m k)
  from_file m k t (is_small h) e = let u = at_least_two t in let g = number_of_lem (sym (answer_small h) ∙ e) in absurd (omega (arith, u))
  from_file m k t (is_refused h f) e = (h, sym (answer_refused h f) ∙ e)
  from_file m k t (is_cut h f a b q) e =
      let g = number_of_lem (sym (cut_refused h f a b q) ∙ e) in
      absurd (not_both t (subst SevenOrEight g (zones_numbered s a b q)))
  from_file m k t (is_listed h f zs q) e =
      let u = at_least_two t in let g = number_of_lem (sym (answer_listed h f zs q) ∙ e) in absurd (omega (arith, u))

  to_file : (m k : ℕ) → OfFile m → 32 ≤ n → (read_of file).answer ≡ numbered m k → (windows_of file n).answer ≡ numbered m k
  to_file m k t h e =
      let u = at_least_two t in
      answer_refused h (λ f. let g = number_of_lem e in omega (arith, u)) ∙ e

  from_cut : (m k : ℕ) → SevenOrEight m → Case → (windows_of file n).answer ≡ numbered m k → CutTo file n (refused m k)
  from_cut m k t (is_small h) e = let u = seven_or_eight t in let g = number_of_lem (sym (answer_small h) ∙ e) in absurd (omega (arith, u.0))
  from_cut m k t (is_refused h f) e =
      let g = number_of_lem (sym (answer_refused h f) ∙ e) in
      absurd (not_both (read_two f) (subst SevenOrEight (sym g) t))
  from_cut m k t (is_cut h f a b q) e =
      (h, f, q ∙ ap (λ (x : Numbered). refused x.number x.place) (sym (cut_refused h f a b q) ∙ e))
  from_cut m k t (is_listed h f zs q) e =
      let u = seven_or_eight t in let g = number_of_lem (sym (answer_listed h f zs q) ∙ e) in absurd (omega (arith, u.0))

  from_listed : (zs : List cutting.Zone) → windows_of file n ≡ listed_reply s zs
      → CutTo file n (listed zs)
  from_listed zs e =
      let behind = lists_behind file n (ap (λ (r : WindowsReply). r.answer.number) e) in
      let b = behind.1 in
      let same : behind.0 ≡ zs = ap (λ (r : WindowsReply). r.zones) (sym b.reply ∙ e) in
      (b.room, b.fine, b.listing ∙ ap listed same)

  only_case : Case
      → ((windows_of file n).answer.number ≡ 0) ⊎ ((windows_of file n).answer ≡ numbered 1 0)
      ⊎ OfFile (windows_of file n).answer.number ⊎ SevenOrEight (windows_of file n).answer.number
  only_case (is_small h) = inr (inl (answer_small h))
  only_case (is_refused h f) = inr (inr (inl (subst OfFile (number_of_lem (sym (answer_refused h f))) (read_two f))))
  only_case (is_cut h f m k q) = inr (inr (inr (subst SevenOrEight (number_of_lem (sym (cut_refused h f m k q))) (zones_numbered s m k q))))
  only_case (is_listed h f zs q) = inl (number_of_lem (answer_listed h f zs q))

pub grounds : (file : List ℕ) (n : ℕ) → Grounds file n
grounds file n =
    record {
      small = (from_small file n (case file n), answer_small file n);
      file_refused = λ m k t. (from_file file n m k t (case file n), λ (h, e). to_file file n m k t h e);
      cutting_refused = λ m k t. (from_cut file n m k t (case file n), λ (h, f, q). cut_refused file n h f m k q);
      zones_listed = λ zs. (from_listed file n zs, λ (h, f, q). cut_listed file n h f zs q);
      only = only_case file n (case file n);
    }
