-- The names of the kinds of file, as the programs' arguments have them; any other names none.
use Rattle.std.specs.Prelude.{Option, Some, None, if◌then◌else◌}
use Rattle.rules.specs.Basics.{Bytes, ascii, same}
use Rattle.text_files.specs.declared.Kind.{Kind}
use Rattle.text_files.specs.declared.Kind.TheVariants.{Acl, Request, Requests, Bundle, Hints}

unfoldable pub kind_named : Bytes → Option Kind
kind_named name =
    if same name (ascii "acl") then Some Acl
    else if same name (ascii "request") then Some Request
    else if same name (ascii "requests") then Some Requests
    else if same name (ascii "bundle") then Some Bundle
    else if same name (ascii "hints") then Some Hints
    else None
