-- A line that is a word.
use mathlib.Core.Path.{◌≡◌, refl, sym, subst}
use mathlib.Core.List.{List}
use Prim.Native.Nat.{ℕ}
use lib.ListN.{length}
use Rattle.std.proofs.lemmas.Slice.Eq.{HasBytesAt, text_from_reads}
use Rattle.lists.specs.Words.{bytes, starts_with}
use Rattle.rules.specs.declared.Command.{Command}
use Rattle.rules.specs.declared.Command.TheVariants as K
use Rattle.rules.specs.declared.Revision.{Revision}
use Rattle.rules.specs.Commands.{form_of, says, meaning_of, command_of}

module _ (s : List ℕ) where
  -- the word w, byte by byte, and the command k that it is
  word_is : (w : List ℕ) (k : Command) → ((rev : Revision) → says k ≡ command_of rev w) → length s ≡ length w → HasBytesAt s 0 w → (rev : Revision) → says k ≡ command_of rev s
  word_is w k h n b rev = subst (λ (l : List ℕ). says k ≡ command_of rev l) (sym (text_from_reads s w n b)) (h rev)

  pub m48_is : length s ≡ length (bytes "M48") → HasBytesAt s 0 (bytes "M48") → (rev : Revision) → says K.M48 ≡ command_of rev s
  unfolding command_of form_of starts_with meaning_of
  m48_is = word_is (bytes "M48") K.M48 (λ rev. refl)

  pub metric_is : length s ≡ length (bytes "METRIC") → HasBytesAt s 0 (bytes "METRIC") → (rev : Revision) → says K.Metric ≡ command_of rev s
  unfolding command_of form_of starts_with meaning_of
  metric_is = word_is (bytes "METRIC") K.Metric (λ rev. refl)

  pub inch_is : length s ≡ length (bytes "INCH") → HasBytesAt s 0 (bytes "INCH") → (rev : Revision) → says K.Inch ≡ command_of rev s
  unfolding command_of form_of starts_with meaning_of
  inch_is = word_is (bytes "INCH") K.Inch (λ rev. refl)

  pub percent_is : length s ≡ length (bytes "%") → HasBytesAt s 0 (bytes "%") → (rev : Revision) → says K.Percent ≡ command_of rev s
  unfolding command_of form_of starts_with meaning_of
  percent_is = word_is (bytes "%") K.Percent (λ rev. refl)

  pub g05_is : length s ≡ length (bytes "G05") → HasBytesAt s 0 (bytes "G05") → (rev : Revision) → says K.G05 ≡ command_of rev s
  unfolding command_of form_of starts_with meaning_of
  g05_is = word_is (bytes "G05") K.G05 (λ rev. refl)

  pub m15_is : length s ≡ length (bytes "M15") → HasBytesAt s 0 (bytes "M15") → (rev : Revision) → says K.M15 ≡ command_of rev s
  unfolding command_of form_of starts_with meaning_of
  m15_is = word_is (bytes "M15") K.M15 (λ rev. refl)

  pub m16_is : length s ≡ length (bytes "M16") → HasBytesAt s 0 (bytes "M16") → (rev : Revision) → says K.M16 ≡ command_of rev s
  unfolding command_of form_of starts_with meaning_of
  m16_is = word_is (bytes "M16") K.M16 (λ rev. refl)

  pub m30_is : length s ≡ length (bytes "M30") → HasBytesAt s 0 (bytes "M30") → (rev : Revision) → says K.M30 ≡ command_of rev s
  unfolding command_of form_of starts_with meaning_of
  m30_is = word_is (bytes "M30") K.M30 (λ rev. refl)

pub ruleset words = (m48_is, metric_is, inch_is, percent_is, g05_is, m15_is, m16_is, m30_is)
