-- The version of the library (VERSION, include/tiedraw.h): as one number, by which clients and servers tell whether they belong together.
use Rattle.std.specs.Prelude.{ℕ, ◌+◌, ◌*◌}

abbrev pub version_major : ℕ
version_major = 0

abbrev pub version_minor : ℕ
version_minor = 4

abbrev pub version_patch : ℕ
version_patch = 4

abbrev pub version_number : ℕ
version_number = version_major * 1000000 + version_minor * 1000 + version_patch
