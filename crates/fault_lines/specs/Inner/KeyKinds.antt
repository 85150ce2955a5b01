-- Whose keys are looked for, and which bytes are before or in one.
use Rattle.std.specs.Prelude.{ℕ, Bool, List}
use Rattle.toml.specs.Data.{Members}
use Rattle.fault_lines.specs.TableLines.{is_blank}
use Rattle.fault_lines.specs.UnknownKeys.{UnknownKey, is_of_key, stands_before_key, unknown_in_issuer, unknown_in_sheet}
use Rattle.fault_lines.specs.declared.key_lines.ByteKind.{ByteKind}
use Rattle.fault_lines.specs.declared.key_lines.ByteKind.TheVariants as kind
use Rattle.fault_lines.specs.declared.unknown_keys.KeyOwner.{KeyOwner}
use Rattle.fault_lines.specs.declared.unknown_keys.KeyOwner.TheVariants as owner

abbrev pub unknown_of : KeyOwner → Members → List UnknownKey
unknown_of owner.Sheet ms = unknown_in_sheet ms
unknown_of owner.Issuer ms = unknown_in_issuer ms

abbrev pub is_of_kind : ByteKind → ℕ → Bool
is_of_kind kind.Blanks c = is_blank c
is_of_kind kind.BeforeKey c = stands_before_key c
is_of_kind kind.OfKey c = is_of_key c
