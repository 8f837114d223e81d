-- A small module with procedures that are tests, and others.
use Rattle.std.specs.Prelude.{codes, [], ◌∷◌, None, Some, pos}
use Rattle.run_rules.specs.Linked.{Source}
use Rattle.run_rows.specs.Parts.{at, ident, own, shown, named, alone, number}

abbrev pub which_are_tests : Source
which_are_tests = record {
  stem = codes "T";
  text = codes "MODULE T; PROCEDURE Pass*; END Pass; PROCEDURE TestHidden; END TestHidden; PROCEDURE Test*; END Test; PROCEDURE TestOf*(x: INTEGER); END TestOf; PROCEDURE TestGives*(): INTEGER; RETURN 1 END TestGives; PROCEDURE Testing*; END Testing; PROCEDURE test*; END test; PROCEDURE TestEmpty*(); END TestEmpty; END T.";
  tree =
      record {
        word = (at 0 6);
        name = (ident 7 (codes "T"));
        semicolon = (at 8 9);
        imports = None;
        declarations = (record {
          constants = None;
          types =
              None;
          variables = None;
        });
        procedures = ((record {
          procedure = (record {
            word = (at 10 19);
            name = (shown (ident 20 (codes "Pass")) (at 24 25));
            formals = None;
            semicolon = (at 25 26);
            locals = (record { constants = None; variables = None });
            body = None;
            returns = None;
            end = (at 27 30);
            end_name = (ident 31 (codes "Pass"));
          });
          semicolon = (at 35 36);
        }) ∷ (record {
          procedure = (record {
            word = (at 37 46);
            name = (own (ident 47
                (codes "TestHidden")));
            formals = None;
            semicolon = (at 57 58);
            locals = (record { constants = None; variables = None });
            body = None;
            returns =
                None;
            end = (at 59 62);
            end_name = (ident 63 (codes "TestHidden"));
          });
          semicolon = (at 73 74);
        }) ∷ (record {
          procedure = (record {
            word = (at 75
                84);
            name = (shown (ident 85 (codes "Test")) (at 89 90));
            formals = None;
            semicolon = (at 90 91);
            locals = (record {
              constants = None;
              variables
                  = None;
            });
            body = None;
            returns = None;
            end = (at 92 95);
            end_name = (ident 96 (codes "Test"));
          });
          semicolon = (at 100 101);
        }) ∷ (record {
          procedure = (record {
            word = (at 102 111);
            name = (shown (ident 112 (codes "TestOf")) (at 118 119));
            formals = (Some (record {
              opening = (at 119
                  120);
              sections = (Some (record {
                first = (record {
                  by_var = None;
                  names = (record { first = (ident 120 (codes "x")); rest = [] });
                  colon = (at
                      121 122);
                  of_type = (record { opens = []; name = (named (ident 123 (codes "INTEGER"))) });
                });
                rest = [];
              }));
              closing = (at 130 131);
              result_type
                  = None;
            }));
            semicolon = (at 131 132);
            locals = (record { constants = None; variables = None });
            body = None;
            returns = None;
            end = (at 133 136);
            end_name = (ident 137 (codes "TestOf"));
          });
          semicolon = (at 143 144);
        }) ∷ (record {
          procedure = (record {
            word = (at 145 154);
            name = (shown
                (ident 155 (codes "TestGives")) (at 164 165));
            formals = (Some (record {
              opening = (at 165 166);
              sections = None;
              closing = (at 166 167);
              result_type = (Some (record { colon = (at 167 168); name = (named (ident 169 (codes "INTEGER"))) }));
            }));
            semicolon = (at 176 177);
            locals =
                (record { constants = None; variables = None });
            body = None;
            returns = (Some (record {
              word = (at 178 184);
              value = (alone (number 185 186 (pos
                  1)));
            }));
            end = (at 187 190);
            end_name = (ident 191 (codes "TestGives"));
          });
          semicolon = (at 200 201);
        }) ∷ (record {
          procedure = (record {
            word =
                (at 202 211);
            name = (shown (ident 212 (codes "Testing")) (at 219 220));
            formals = None;
            semicolon = (at 220 221);
            locals = (record {
              constants =
                  None;
              variables = None;
            });
            body = None;
            returns = None;
            end = (at 222 225);
            end_name = (ident 226 (codes "Testing"));
          });
          semicolon = (at 233 234);
        }) ∷ (record {
          procedure = (record {
            word = (at 235 244);
            name = (shown (ident 245 (codes "test")) (at 249 250));
            formals = None;
            semicolon = (at
                250 251);
            locals = (record { constants = None; variables = None });
            body = None;
            returns = None;
            end = (at 252 255);
            end_name = (ident 256 (codes
                "test"));
          });
          semicolon = (at 260 261);
        }) ∷ (record {
          procedure = (record {
            word = (at 262 271);
            name = (shown (ident 272 (codes "TestEmpty")) (at
                281 282));
            formals = (Some (record { opening = (at 282 283); sections = None; closing = (at 283 284); result_type = None }));
            semicolon = (at 284
                285);
            locals = (record { constants = None; variables = None });
            body = None;
            returns = None;
            end = (at 286 289);
            end_name = (ident 290 (codes
                "TestEmpty"));
          });
          semicolon = (at 299 300);
        }) ∷ []);
        body = None;
        end = (at 301 304);
        end_name = (ident 305 (codes "T"));
        period = (at 306 307);
      };
}
