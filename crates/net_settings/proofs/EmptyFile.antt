-- An empty file gives the default settings.
use Rattle.std.proofs.Common.{◌≡◌, [], Ok, refl}
use Rattle.std.specs.Str.{is_utf8, chars}
use Rattle.toml.proofs.OnLiterals.{toml_on_literals}
use Rattle.net_settings.specs.Defaults.{default_parts}
use Rattle.net_settings.specs.Document.{settings_of}

pub empty_file : settings_of [] ≡ Ok default_parts
unfolding toml_on_literals is_utf8 chars
empty_file = refl
