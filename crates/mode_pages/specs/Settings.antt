-- The settings after power on and after a reset.
use Rattle.std.specs.Prelude.{true, false}
use Rattle.mode_pages.specs.declared.settings.Settings.{Settings}

-- both reallocations on, recovered errors not reported, five retries, both caches and the background scan on
abbrev pub default_settings : Settings
default_settings = record { awre = true; arre = true; per = false; retry = 5; wce = true; rcd = false; bms = true }
